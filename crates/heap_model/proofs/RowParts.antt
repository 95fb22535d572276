-- The cells of a row one after another, with those of the patches in their place.
use Rattle.std.proofs.Common.{◌≡◌, ℕ, ◌+◌, ◌≤◌, List}
use Rattle.std.proofs.Common.{[], ◌∷◌, ◌++◌, Contains, All}
use Rattle.std.proofs.Common.{refl, sym, ◌∙◌, subst, arith}
use Rattle.std.proofs.lemmas.List.Elements.{All-nil, All-cons, All-weaker, All-contains_itself, All-append}
use Rattle.tagged_word.proofs.Members.{first_in, rest_in}
use Rattle.page_space.specs.Extents.{Space}
use Rattle.heap_model.specs.Types.{Cell}
use Rattle.cell_layout.specs.Cells.{IsRow, none}
use Rattle.cell_layout.proofs.Rows.{row_begins, row_from, row_of_none, row_ascends, rows_join, cell_within}
use Rattle.heap_model.specs.Heaps.{Heap, Row, HasCell, words_of_cell}
use Rattle.heap_model.specs.Changes.{Patch, IsPatched}
use Rattle.heap_model.proofs.CellsApart.{first_of_cell}
use Rattle.heap_model.proofs.Patches.{Patching, IsFree, Spot, spot, patch_is, patched_is_before, row_holds}
use Rattle.heap_model.proofs.FreeCells.{free_stays}
use Rattle.heap_model.proofs.RowSeams.{Ahead, IsSeam, ahead_in, seam_behind_free, seam_behind_patch, seam_at_start}
use Rattle.heap_model.proofs.PatchedRows.{RowPatching, patch_in_row}

-- Where a cell of the new heap is from: a patch, the old heap, or the words that are newly used.
pub data Origin (old : Heap) (patches : List Patch) (made : List Cell) (cell : Cell) : Type 0 where
  came : (patch : Patch) → Contains patches patch → Contains patch.after cell → Origin old patches made cell
  stayed : HasCell old cell (words_of_cell old cell) → IsFree patches cell.at → Origin old patches made cell
  is_made : Contains made cell → Origin old patches made cell

-- a row in the new words
pub record Part (old new : Heap) (patches : List Patch) (made : List Cell) (from to : ℕ) : Type 0 where
  pub cells : List Cell
  pub stands : IsRow old.space new.words from to cells
  pub each : All (Origin old patches made) cells

-- a cell that no patch has stands before the rest
free_then : {old new : Heap} {patches : List Patch} {made : List Cell} (cell : Cell) (to : ℕ)
    → Patching old new patches made → HasCell old cell (words_of_cell old cell) → IsFree patches cell.at
    → Part old new patches made (cell.at + cell.size) to → Part old new patches made cell.at to
free_then {old} {patches = patches} {made} cell to patching has free part = record {
  cells = cell ∷ part.cells;
  stands = row_from record { starts = refl; is_cell = free_stays patching has free; rest = part.stands };
  each = All-cons (Origin old patches made) cell part.cells (Origin.stayed has free) part.each;
}

-- the cells after stand in the new words
pub after_stands : {old new : Heap} {patches : List Patch} {made : List Cell} {patch : Patch}
    → Patching old new patches made → Contains patches patch → IsRow old.space new.words patch.from patch.to patch.after
after_stands {new = new} {patch = patch} patching there =
    subst (λ (space : Space). IsRow space new.words patch.from patch.to patch.after) patching.change.same_space
    (patch_is patching there).stands

-- the cells of a patch stand before the rest
patch_then : {old new : Heap} {patches : List Patch} {made : List Cell} (patch : Patch) (to : ℕ)
    → Patching old new patches made → Contains patches patch → Part old new patches made patch.to to
    → Part old new patches made patch.from to
patch_then {old} {new} {patches} {made} patch to patching there part =
    let P : Cell → Type 0 = Origin old patches made in
    let from_patch : (cell : Cell) → Contains patch.after cell → P cell = λ cell after. Origin.came patch there after in
    record {
      cells = patch.after ++ part.cells;
      stands = rows_join old.space new.words patch.from patch.to to patch.after part.cells
          (after_stands patching there) part.stands;
      each = All-append (Origin old patches made) patch.after part.cells
          (All-weaker (Contains patch.after) (Origin old patches made) from_patch patch.after
          (All-contains_itself patch.after))
          part.each;
    }

-- the new row from where the old one has come behind a cell
abbrev Rest : (old new : Heap) → List Patch → List Cell → ℕ → ℕ → Type 0
Rest old new patches made at to =
    (next : ℕ) → Ahead patches at next → IsSeam patches next to → next ≤ to → Part old new patches made next to

-- a cell of the row, as the cell of the old heap
pub row_has : {old new : Heap} {patches : List Patch} {made : List Cell} {row : Row} {cell : Cell}
    → RowPatching old new patches made row → Contains row.cells cell → HasCell old cell (words_of_cell old cell)
row_has {row = row} context in_row =
    record { row = row; in_region = context.there; used = context.used; in_row = in_row; words_are = refl }

-- a cell of a patch ends with it, or before
ends_in_patch : {old new : Heap} {patches : List Patch} {made : List Cell} {row : Row} {cell : Cell} {patch : Patch}
    → RowPatching old new patches made row → Contains row.cells cell → Contains patches patch → IsPatched cell.at patch
    → cell.at + cell.size ≤ patch.to
ends_in_patch {old} {cell = cell} {patch} context in_row there patched =
    let has = row_has context in_row in
    let is = patch_is context.patching there in
    let before = patched_is_before context.patching.rows is has (first_of_cell has) patched in
    (cell_within old.space old.words patch.from patch.to patch.before cell is.stood before).1

-- the new row from a cell on, where it has come as far
turn_even : {old new : Heap} {patches : List Patch} {made : List Cell} {row : Row} {cell : Cell}
    → RowPatching old new patches made row → Contains row.cells cell → cell.at + cell.size ≤ row.end
    → IsSeam patches cell.at row.end → Rest old new patches made (cell.at + cell.size) row.end
    → Spot patches cell.at → Part old new patches made cell.at row.end
turn_even {old} {new} {patches} {made} {row} {cell} context in_row within seam rest
    (Spot.in_patch patch there patched) =
    let has = row_has context in_row in
    let holds = row_holds context.patching.rows context.there context.used in_row (first_of_cell has) in
    let part = patch_in_row context there patched holds in
    let ahead = ahead_in cell patch patch.to there patched (ends_in_patch context in_row there patched) refl in
    let behind = rest patch.to ahead (seam_behind_patch cell.at row.end context.patching there patched) part.to in
    let begins : patch.from ≡ cell.at = seam patch there (omega (arith, within, (first_of_cell has).below)) patched in
    subst (λ (from : ℕ). Part old new patches made from row.end) begins
    (patch_then patch row.end context.patching there behind)
turn_even {row = row} {cell} context in_row within seam rest (Spot.free free) =
    let has = row_has context in_row in
    free_then cell row.end context.patching has free
    (rest (cell.at + cell.size) (Ahead.even refl) (seam_behind_free row.end context.patching has free) within)

-- the new row from where it has come, at a cell of the old one
turn : {old new : Heap} {patches : List Patch} {made : List Cell} {row : Row} {cell : Cell} {next : ℕ}
    → RowPatching old new patches made row → Contains row.cells cell → cell.at + cell.size ≤ row.end
    → IsSeam patches next row.end → next ≤ row.end → Rest old new patches made (cell.at + cell.size) row.end
    → Ahead patches cell.at next → Part old new patches made next row.end
turn {old} {new} {patches} {made} {row} {cell} context in_row within seam near rest (Ahead.even same) =
    let P : ℕ → Type 0 = λ from. Part old new patches made from row.end in
    let here : IsSeam patches cell.at row.end = subst (λ (from : ℕ). IsSeam patches from row.end) (sym same) seam in
    subst P same (turn_even context in_row within here rest (spot patches cell.at))
turn {cell = cell} {next} context in_row within seam near rest (Ahead.inside patch there patched ends) =
    rest next (ahead_in cell patch next there patched (ends_in_patch context in_row there patched) ends) seam near

-- the new row of no more cells
no_more : {old new : Heap} {patches : List Patch} {made : List Cell} (at next to : ℕ) → at ≡ to → next ≤ to
    → Ahead patches at next → Part old new patches made next to
no_more {old} {new} {patches} {made} at next to same near (Ahead.even is_next) =
    let P : ℕ → Type 0 = λ from. IsRow old.space new.words from to [] in
    record { cells = []; stands = subst P (sym same ∙ is_next) (none to); each = All-nil (Origin old patches made) }
no_more at next to same near (Ahead.inside patch there patched ends) = absurd (omega (arith, patched.below))

-- the new row beside cells of the old one
walk : {old new : Heap} {patches : List Patch} {made : List Cell} {row : Row} (cells : List Cell) (at next : ℕ)
    → RowPatching old new patches made row → IsRow old.space old.words at row.end cells
    → ((cell : Cell) → Contains cells cell → Contains row.cells cell) → IsSeam patches next row.end → next ≤ row.end
    → Ahead patches at next → Part old new patches made next row.end
walk {row = row} [] at next context stands mine seam near ahead =
    no_more at next row.end (row_of_none stands) near ahead
walk {old} {patches = patches} {row = row} (cell ∷ cells) at next context stands mine seam near ahead =
    let begins = row_begins stands in
    let within = (cell_within old.space old.words at row.end (cell ∷ cells) cell stands (first_in cell cells)).1 in
    let more = λ (one : Cell) (there : Contains cells one). mine one (rest_in cell cells one there) in
    let here : Ahead patches cell.at next = subst (λ (k : ℕ). Ahead patches k next) (sym begins.starts) ahead in
    turn context (mine cell (first_in cell cells)) within seam near
    (λ later ahead_later seam_later near_later.
    walk cells (cell.at + cell.size) later context begins.rest more seam_later near_later ahead_later)
    here

-- the new row of a row
pub new_part : {old new : Heap} {patches : List Patch} {made : List Cell} {row : Row}
    → RowPatching old new patches made row → Part old new patches made row.extent.start row.end
new_part {old} {row = row} context =
    let start : ℕ = row.extent.start in
    walk row.cells start start context context.used.stands (λ cell there. there) (seam_at_start context)
    (row_ascends old.space old.words start row.end row.cells context.used.stands) (Ahead.even refl)
