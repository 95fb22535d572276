-- Where the cell of one object becomes another of it, and words of its own cells have changed, cells stand in rows.
use Rattle.std.proofs.Common.{◌≡◌, ◌≢◌, ℕ, ◌+◌, ◌<◌, ◌≤◌, ◌⊎◌, inl, inr, List, [], ◌∷◌, ◌++◌}
use Rattle.std.proofs.Common.{length, IsTrue, Contains, All, map, slice_get, sym, ◌∙◌, ap, subst, arith}
use Rattle.std.specs.List.{flat_map}
use Rattle.std.proofs.lemmas.Bool.{false≢true}
use Rattle.std.proofs.lemmas.List.Concat.{flat_map_single}
use Rattle.std.proofs.lemmas.List.Folds.{flat_map-map}
use Rattle.std.proofs.lemmas.List.Elements.{All-cons, All-contains, All-map, All-weaker, All-contains_itself}
use Rattle.std.proofs.lemmas.List.{map-id}
use Rattle.std.proofs.lemmas.Simd.{map-map}
use Rattle.heap_model.specs.Types.{Kind, Path, Cell}
use Rattle.tagged_word.specs.declared.layout.Kind.TheVariants as kind
use Rattle.tagged_word.specs.Cells.{has_length, length_offset, is_object_kind}
use Rattle.tagged_word.proofs.Members.{in_map, map_from, first_in, rest_in, in_cases}
use Rattle.page_space.specs.Extents.{Space, roots_start, layouts_start, marks_start}
use Rattle.page_space.proofs.Starts.{roots_start_is, layouts_start_is}
use Rattle.cell_layout.specs.Cells.{IsCell, IsRow}
use Rattle.cell_layout.specs.CellLaws.{ReadsAlike}
use Rattle.cell_layout.proofs.OneCell.{cells_stay}
use Rattle.heap_model.specs.Heaps.{Heap, HasCell, words_of_cell}
use Rattle.heap_model.specs.Wholeness.{Whole, HasSizes, HasRows, IsOwnedKind}
use Rattle.heap_model.specs.Changes.{Patch, IsPatched, Rewrite, IsRewrite, patch_of, IsChange}
use Rattle.heap_model.specs.Changes.{IsRunOf, CellsChange}
use Rattle.heap_model.proofs.CellOutcomes.{object_is_no_filler, owned_is_no_filler}
use Rattle.heap_model.proofs.CellsApart.{has_is_cell, used_few}
use Rattle.heap_model.proofs.LayoutsStay.{SayLayouts, layout_stays}
use Rattle.heap_model.proofs.WordsAlike.{cell_below_roots}
use Rattle.heap_model.proofs.RunCells.{run_beside}
use Rattle.heap_model.proofs.Rewrites.{rewrite_by_one, rewrite_slots, rewrites_are_patches, rewrites_keep_cells}
use Rattle.object_cells.specs.CellWrites.{IsInCell, IsWrittenOfKind}

-- a store, a table or a box of the old heap, of which neither the header nor the length changed
pub record IsWrittenOwned (old new : Heap) (other : Cell) : Type 0 where
  pub stood : HasCell old other (words_of_cell old other)
  pub owned : IsOwnedKind other.layout.kind
  pub header : slice_get new.words other.at ≡ slice_get old.words other.at
  pub length : IsTrue (has_length other.layout.kind)
      → slice_get new.words (other.at + length_offset) ≡ slice_get old.words (other.at + length_offset)

-- A cell of the same object stands in the words of an object's cell. Otherwise only words of this cell and of these
-- others have changed, words of the run in which cells were made, and layout words of shapes that are new.
pub record WritesObject (old new : Heap) (cell came : Cell) (others made : List Cell) : Type 0 where
  pub same_space : new.space ≡ old.space
  pub same_survivors : new.survivors ≡ old.survivors
  pub room : new.survivors + new.used ≤ new.space.sizes.young
  pub more : List Path
  pub paths : new.paths ≡ old.paths ++ more
  pub sized : HasSizes new
  pub stood : HasCell old cell (words_of_cell old cell)
  pub object : IsTrue (is_object_kind cell.layout.kind)
  pub same_kind : came.layout.kind ≡ cell.layout.kind
  pub place : came.at ≡ cell.at
  pub size : came.size ≡ cell.size
  pub number : came.header.object ≡ cell.header.object
  pub is_cell : IsCell new.space new.words came
  pub beside : (other : Cell) → Contains others other → IsWrittenOwned old new other
  pub from : ℕ
  pub to : ℕ
  pub run : IsRunOf old new from to
  pub made_stand : IsRow new.space new.words from to made
  pub stay : (at : ℕ) → at < layouts_start old.space → (IsInCell at cell → ⊥)
      → ((other : Cell) → Contains others other → IsInCell at other → ⊥) → (from ≤ at → at < to → ⊥)
      → slice_get new.words at ≡ slice_get old.words at

-- there are as many words as before
pub same_count : {old new : Heap} → HasSizes old → HasSizes new → new.space ≡ old.space
    → length new.words ≡ length old.words
same_count sized sized_new same = sized_new.words ∙ ap marks_start same ∙ sym sized.words

-- where paths are only added, a cell's layout word is read as before
pub layout_alike : {old new : Heap} {cell : Cell} {words : List ℕ} (more : List Path) → HasSizes old → HasSizes new
    → new.space ≡ old.space → new.paths ≡ old.paths ++ more → (has : HasCell old cell words)
    → slice_get new.words cell.at ≡ slice_get old.words cell.at
    → (IsTrue (has_length cell.layout.kind) → slice_get new.words (cell.at + 1) ≡ slice_get old.words (cell.at + 1))
    → ReadsAlike old.space old.words new.words cell
layout_alike {old} {new} {cell} more sized sized_new same paths has first second =
    let say : SayLayouts old.space new.words (old.paths ++ more) =
    subst (λ (space : Space). SayLayouts space new.words (old.paths ++ more)) same
    (subst (λ (all : List Path). SayLayouts new.space new.words all) paths sized_new.layouts) in
    record {
      first = first;
      second = second;
      of_shape = layout_stays old.space old.words new.words old.paths more cell sized.layouts say (has_is_cell has);
    }

-- a cell without a length of which the header stays stands where it stood
pub headed_stays : {old new : Heap} {cell : Cell} {words : List ℕ} (more : List Path) → HasSizes old → HasSizes new
    → new.space ≡ old.space → new.paths ≡ old.paths ++ more → HasCell old cell words
    → slice_get new.words cell.at ≡ slice_get old.words cell.at
    → (IsTrue (has_length cell.layout.kind) → ⊥) → IsCell new.space new.words cell
headed_stays {old} {new} {cell} more sized sized_new same paths has header short =
    let alike = layout_alike more sized sized_new same paths has header (λ long. absurd (short long)) in
    let stays = cells_stay old.space old.words new.words cell (has_is_cell has) (same_count sized sized_new same)
    alike in
    subst (λ (space : Space). IsCell space new.words cell) (sym same) stays

-- a box has no length
pub box_without : (k : Kind) → k ≡ kind.Boxed → IsTrue (has_length k) → ⊥
box_without k boxed long = false≢true (ap has_length (sym boxed) ∙ long)

-- a cell of a kind that is owned, or a box, belongs to an object
pub owned_or_box : {owned k : Kind} → (k ≡ owned) ⊎ (k ≡ kind.Boxed) → IsOwnedKind owned → IsOwnedKind k
owned_or_box (inl same) own = subst IsOwnedKind (sym same) own
owned_or_box (inr boxed) own = subst IsOwnedKind (sym boxed) tt

-- so one of which neither the header nor the length changed was written as what an object owns may be
pub owned_of_kind : {owned : Kind} {old new : Heap} {other : Cell} → IsWrittenOfKind owned old new other
    → IsOwnedKind owned → IsWrittenOwned old new other
owned_of_kind {other = other} beside own = record {
  stood = beside.stood;
  owned = owned_or_box beside.of_kind own;
  header = beside.header;
  length = λ long. elim beside.of_kind [
    | inl is ↦ beside.length is
    | inr boxed ↦ absurd (box_without other.layout.kind boxed long)
  ];
}

-- the cell is rewritten by itself
abbrev by_itself : Cell → Rewrite
by_itself cell = record { cell = cell; into = cell ∷ [] }

-- the cell becomes another
abbrev by_other : Cell → Cell → Rewrite
by_other cell came = record { cell = cell; into = came ∷ [] }

-- the object's cell becomes the other, and each of those beside it itself
abbrev rewrites_of : Cell → Cell → List Cell → List Rewrite
rewrites_of cell came others = by_other cell came ∷ map by_itself others

-- a run in which cells are made ends before the roots
run_below : {old new : Heap} {from to : ℕ} → IsRunOf old new from to → new.used ≤ old.space.sizes.young
    → to ≤ roots_start old.space
run_below {old} (IsRunOf.of_eden begins ends grown) few = omega (arith, ends, few, roots_start_is old.space)
run_below {old} (IsRunOf.of_page forward same fillers) few = omega (arith, fillers.of_page, roots_start_is old.space)

-- a word of cells that no patch has stays, unless it is of the run
free_stays : {old new : Heap} {cell came : Cell} {others made : List Cell} (at : ℕ)
    → (writes : WritesObject old new cell came others made) → at < roots_start old.space
    → All (λ patch. IsPatched at patch → ⊥) (map patch_of (rewrites_of cell came others))
    → (writes.from ≤ at → at < writes.to → ⊥) → slice_get new.words at ≡ slice_get old.words at
free_stays {old} {cell = cell} {came} {others} at writes below free not_new =
    let first = by_other cell came in
    let rewrites = rewrites_of cell came others in
    let apart : (rewrite : Rewrite) → Contains rewrites rewrite → IsPatched at (patch_of rewrite) → ⊥ =
    λ rewrite there. All-contains (λ patch. IsPatched at patch → ⊥) (map patch_of rewrites) (patch_of rewrite) free
    (in_map patch_of rewrites rewrite there) in
    writes.stay at (omega (arith, below, layouts_start_is old.space))
    (λ of_cell. apart first (first_in first (map by_itself others))
    (record { from = of_cell.from; below = of_cell.below }))
    (λ other there of_other. apart (by_itself other)
    (rest_in first (map by_itself others) (by_itself other) (in_map by_itself others other there))
    (record { from = of_other.from; below = of_other.below }))
    not_new

-- what went are the cell and the others
cells_went : (cell came : Cell) (others : List Cell)
    → map (λ (rewrite : Rewrite). rewrite.cell) (rewrites_of cell came others) ≡ cell ∷ others
cells_went cell came others =
    ap (λ more. cell ∷ more) (map-map (λ (rewrite : Rewrite). rewrite.cell) by_itself others ∙ map-id others)

-- and what came are what the cell became, and the others
cells_came : (cell came : Cell) (others : List Cell)
    → flat_map (λ (rewrite : Rewrite). rewrite.into) (rewrites_of cell came others) ≡ came ∷ others
cells_came cell came others =
    ap (λ more. came ∷ more)
    (flat_map-map (λ (rewrite : Rewrite). rewrite.into) by_itself others ∙ flat_map_single (λ one. one) others
    ∙ map-id others)

module _ {old new : Heap} {cell came : Cell} {others made : List Cell} (whole : Whole old)
    (writes : WritesObject old new cell came others made) where
  -- what belongs to the object and was written is read as before
  beside_alike : {other : Cell} → Contains others other → ReadsAlike old.space old.words new.words other
  beside_alike {other = other} there =
      let beside = writes.beside other there in
      layout_alike writes.more whole.sized writes.sized writes.same_space writes.paths beside.stood beside.header
      beside.length

  -- these are rewrites
  are_rewrites : All (IsRewrite old new) (rewrites_of cell came others)
  are_rewrites =
      let Q : Cell → Type 0 = λ other. IsRewrite old new (by_itself other) in
      let each : (other : Cell) → Contains others other → Q other = λ other there.
      rewrite_slots (writes.beside other there).stood writes.same_space
      (same_count whole.sized writes.sized writes.same_space) (beside_alike there) in
      All-cons (IsRewrite old new) (by_other cell came) (map by_itself others)
      (rewrite_by_one writes.stood writes.is_cell writes.place writes.size)
      (All-map (IsRewrite old new) by_itself others
      (All-weaker (Contains others) Q each others (All-contains_itself others)))

  -- as much of eden is used as there is of the young generation, or less
  few_used : new.used ≤ old.space.sizes.young
  few_used = omega (arith, writes.room, ap (λ (space : Space). space.sizes.young) writes.same_space)

  -- a cell that is no filler has no word of the run
  beside_run : {one : Cell} {words : List ℕ} (at : ℕ) → HasCell old one words → one.layout.kind ≢ kind.Filler
      → IsPatched at (patch_of (by_itself one)) → writes.from ≤ at → at < writes.to → ⊥
  beside_run at has no_filler is from below =
      no_filler (run_beside writes.from writes.to at whole.rows few_used writes.run has
      (record { from = is.from; below = is.below }) from below).0

  -- so no patch has one
  rewrite_beside : (rewrite : Rewrite) (at : ℕ) → Contains (rewrites_of cell came others) rewrite
      → IsPatched at (patch_of rewrite) → writes.from ≤ at → at < writes.to → ⊥
  rewrite_beside rewrite at among is from below =
      elim (in_cases (by_other cell came) (map by_itself others) rewrite among) [
        | inl same ↦
            let is_own = subst (λ (one : Rewrite). IsPatched at (patch_of one)) (sym same) is in
            beside_run at writes.stood (object_is_no_filler cell.layout.kind writes.object)
            (record { from = is_own.from; below = is_own.below }) from below
        | inr there ↦
            let one = map_from by_itself others rewrite there in
            let beside = writes.beside one.0 one.1 in
            beside_run at beside.stood (owned_is_no_filler one.0.layout.kind beside.owned)
            (subst (λ (rewrite : Rewrite). IsPatched at (patch_of rewrite)) (sym one.2) is) from below
      ]

  patch_beside : (patch : Patch) (at : ℕ) → Contains (map patch_of (rewrites_of cell came others)) patch
      → IsPatched at patch → writes.from ≤ at → at < writes.to → ⊥
  patch_beside patch at among is from below =
      let one = map_from patch_of (rewrites_of cell came others) patch among in
      rewrite_beside one.0 at one.1 (subst (IsPatched at) (sym one.2) is) from below

  -- a word of the roots stays
  root_stays : (at : ℕ) → roots_start old.space ≤ at → at < layouts_start old.space
      → slice_get new.words at ≡ slice_get old.words at
  root_stays at behind below =
      let few = used_few whole.rows in
      writes.stay at below (λ of_cell. omega (arith, of_cell.below, cell_below_roots few writes.stood))
      (λ other there of_other. omega (arith, of_other.below, cell_below_roots few (writes.beside other there).stood))
      (λ from high. omega (arith, behind, high, run_below writes.run few_used))

  -- nothing else changes
  is_change : IsChange old new (map patch_of (rewrites_of cell came others)) made
  is_change =
      let are = rewrites_are_patches old new (rewrites_of cell came others) whole.rows are_rewrites in
      record {
        same_space = writes.same_space;
        same_survivors = writes.same_survivors;
        room = writes.room;
        more = writes.more;
        paths = writes.paths;
        sized = writes.sized;
        each = are.0;
        apart = are.1;
        from = writes.from;
        to = writes.to;
        run = writes.run;
        beside = patch_beside;
        made_stand = writes.made_stand;
        cells_stay = λ at below free not_new. free_stays at writes below free not_new;
        roots_stay = λ at behind below. root_stays at behind below;
      }

  -- cells stand in rows again: what the object's became, the others as they were, and those that were made
  pub object_keeps_cells : HasRows new × CellsChange old new (cell ∷ others) (came ∷ others) made
  object_keeps_cells =
      let rewrites : List Rewrite = rewrites_of cell came others in
      let kept = rewrites_keep_cells old new rewrites made whole is_change in
      let P : List Cell → Type 0 = λ gone. CellsChange old new gone (flat_map (λ rewrite. rewrite.into) rewrites) made
      in
      let Q : List Cell → Type 0 = λ all. CellsChange old new (cell ∷ others) all made in
      (kept.0, subst Q (cells_came cell came others) (subst P (cells_went cell came others) kept.1))
