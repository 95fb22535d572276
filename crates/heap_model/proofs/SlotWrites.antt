-- Cells of which only slots are written are rewritten by themselves.
use Rattle.std.proofs.Common.{◌≡◌, ◌≢◌, ℕ, ◌+◌, ◌≤◌, List, [], ◌∷◌, map, Contains, All, slice_get}
use Rattle.std.proofs.Common.{append-nil, refl, sym, ◌∙◌, ap, subst, arith}
use Rattle.std.specs.List.{flat_map}
use Rattle.std.proofs.lemmas.List.Elements.{All-contains, All-map, All-weaker, All-contains_itself}
use Rattle.tagged_word.proofs.Members.{in_map}
use Rattle.heap_model.specs.Types.{Path, Cell}
use Rattle.page_space.specs.Extents.{roots_start, layouts_start, eden_start}
use Rattle.page_space.proofs.Starts.{layouts_start_is}
use Rattle.cell_layout.specs.Cells.{none}
use Rattle.cell_layout.specs.CellLaws.{ReadsAlike, IsOfSlot}
use Rattle.heap_model.specs.Heaps.{Heap}
use Rattle.heap_model.specs.Wholeness.{HasRows, HasSizes, Whole}
use Rattle.heap_model.specs.Changes.{IsPatched, Rewrite, IsRewrite, patch_of, written, WritesSlots, IsRunOf}
use Rattle.heap_model.specs.Changes.{IsChange, CellsChange}
use Rattle.heap_model.specs.Laws.{SlotWritesKeepCells}
use Rattle.heap_model.proofs.CellsApart.{IsOfCell, has_is_cell, cells_apart, first_of_cell, used_few}
use Rattle.heap_model.proofs.WordsAlike.{cell_below_roots}
use Rattle.heap_model.proofs.LayoutsStay.{SayLayouts, layout_stays}
use Rattle.cell_layout.proofs.Puts.{two_words}
use Rattle.heap_model.proofs.Rewrites.{rewrite_slots, rewrites_are_patches, rewrites_keep_cells}

-- a slot's address is one of its cell
of_slot : (cell : Cell) (offset at : ℕ) → IsOfSlot cell offset → cell.at + offset ≡ at → IsOfCell cell at
of_slot cell offset at slot same = record { from = omega arith; below = omega (arith, slot.within) }

-- an address of a cell that is none of its slots stays
stays_in_cell : {heap : Heap} {words : List ℕ} {cells : List Cell} {cell : Cell} (at : ℕ) → HasRows heap
    → WritesSlots heap words cells → Contains cells cell → IsOfCell cell at
    → ((offset : ℕ) → IsOfSlot cell offset → cell.at + offset ≢ at) → slice_get words at ≡ slice_get heap.words at
stays_in_cell {cell = cell} at rows writes there of_cell apart =
    writes.stay at (λ other offset there_too slot same.
    let one : other ≡ cell = cells_apart at rows (writes.stood other there_too) (writes.stood cell there)
    (of_slot other offset at slot same) of_cell in
    apart offset (subst (λ (c : Cell). IsOfSlot c offset) one slot)
    (subst (λ (c : Cell). c.at + offset ≡ at) one same))

-- and so does one that is behind all cells
stays_behind : {heap : Heap} {words : List ℕ} {cells : List Cell} (at : ℕ) → HasRows heap → WritesSlots heap words cells
    → roots_start heap.space ≤ at → slice_get words at ≡ slice_get heap.words at
stays_behind at rows writes behind =
    writes.stay at (λ cell offset there slot same.
    omega (arith, same, slot.within, cell_below_roots (used_few rows) (writes.stood cell there)))

-- the sizes stay
sizes_stay : (heap : Heap) (words : List ℕ) (cells : List Cell) → Whole heap → WritesSlots heap words cells
    → HasSizes (written heap words)
sizes_stay heap words cells whole writes = record {
  words = writes.long ∙ whole.sized.words;
  shapes = whole.sized.shapes;
  layouts = λ shape below.
      stays_behind (layouts_start heap.space + shape) whole.rows writes (omega (arith, layouts_start_is heap.space))
      ∙ whole.sized.layouts shape below;
}

-- each of the cells is read as before
reads_stay : (heap : Heap) (words : List ℕ) (cells : List Cell) (cell : Cell) → Whole heap
    → WritesSlots heap words cells → Contains cells cell → ReadsAlike heap.space heap.words words cell
reads_stay heap words cells cell whole writes there =
    let has = writes.stood cell there in
    let is_cell = has_is_cell has in
    let say : SayLayouts heap.space words heap.paths = (sizes_stay heap words cells whole writes).layouts in
    let P : List Path → Type 0 = λ paths. SayLayouts heap.space words paths in
    record {
      first = stays_in_cell cell.at whole.rows writes there (first_of_cell has)
          (λ offset slot same. omega (arith, same, slot.behind_header));
      second = λ long. stays_in_cell (cell.at + 1) whole.rows writes there
          (record { from = omega arith; below = omega (arith, two_words heap.space heap.words cell is_cell long) })
          (λ offset slot same. omega (arith, same, slot.behind_length long));
      of_shape = layout_stays heap.space heap.words words heap.paths [] cell whole.sized.layouts
          (subst P (sym (append-nil heap.paths)) say) is_cell;
    }

-- the cell is rewritten by itself
abbrev by_itself : Cell → Rewrite
by_itself cell = record { cell = cell; into = cell ∷ [] }

-- the cells are rewritten by themselves
are_rewrites : (heap : Heap) (words : List ℕ) (cells : List Cell) → Whole heap → WritesSlots heap words cells
    → All (IsRewrite heap (written heap words)) (map by_itself cells)
are_rewrites heap words cells whole writes =
    let Q : Cell → Type 0 = λ cell. IsRewrite heap (written heap words) (by_itself cell) in
    let each : (cell : Cell) → Contains cells cell → Q cell = λ cell there.
    rewrite_slots (writes.stood cell there) refl writes.long (reads_stay heap words cells cell whole writes there) in
    All-map (IsRewrite heap (written heap words)) by_itself cells
    (All-weaker (Contains cells) Q each cells (All-contains_itself cells))

-- and nothing else changes
is_change : (heap : Heap) (words : List ℕ) (cells : List Cell) → Whole heap → WritesSlots heap words cells
    → IsChange heap (written heap words) (map patch_of (map by_itself cells)) []
is_change heap words cells whole writes =
    let rewrites : List Rewrite = map by_itself cells in
    let are = rewrites_are_patches heap (written heap words) rewrites whole.rows
    (are_rewrites heap words cells whole writes) in
    record {
      same_space = refl;
      same_survivors = refl;
      room = whole.rows.few;
      more = [];
      paths = sym (append-nil heap.paths);
      sized = sizes_stay heap words cells whole writes;
      each = are.0;
      apart = are.1;
      from = eden_start heap.space + heap.used;
      to = eden_start heap.space + heap.used;
      run = IsRunOf.of_eden refl refl (omega arith);
      beside = λ patch at there patched above below. omega arith;
      made_stand = none (eden_start heap.space + heap.used);
      cells_stay = λ at below free not_new. writes.stay at (λ cell offset there slot same.
          let among = in_map patch_of rewrites (by_itself cell) (in_map by_itself cells cell there) in
          let of_cell = of_slot cell offset at slot same in
          All-contains (λ patch. IsPatched at patch → ⊥) (map patch_of rewrites) (patch_of (by_itself cell)) free among
          record { from = of_cell.from; below = of_cell.below });
      roots_stay = λ at behind below. stays_behind at whole.rows writes behind;
    }

-- what went are the cells, and so is what came
cells_went : (cells : List Cell) → map (λ (rewrite : Rewrite). rewrite.cell) (map by_itself cells) ≡ cells
cells_went [] = refl
cells_went (cell ∷ cells) = ap (λ more. cell ∷ more) (cells_went cells)

-- what came are the cells too
cells_came : (cells : List Cell) → flat_map (λ (rewrite : Rewrite). rewrite.into) (map by_itself cells) ≡ cells
cells_came [] = refl
cells_came (cell ∷ cells) = ap (λ more. cell ∷ more) (cells_came cells)

-- where only slots of some cells are written, these are what changes
pub slot_writes_keep_cells : SlotWritesKeepCells
slot_writes_keep_cells heap words cells whole writes =
    let new : Heap = written heap words in
    let rewrites : List Rewrite = map by_itself cells in
    let kept = rewrites_keep_cells heap new rewrites [] whole (is_change heap words cells whole writes) in
    let P : List Cell → Type 0 = λ gone. CellsChange heap new gone (flat_map (λ rewrite. rewrite.into) rewrites) [] in
    let Q : List Cell → Type 0 = λ came. CellsChange heap new cells came [] in (
      sizes_stay heap words cells whole writes,
      kept.0,
      subst Q (cells_came cells) (subst P (cells_went cells) kept.1),
    )
