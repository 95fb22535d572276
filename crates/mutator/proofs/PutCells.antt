-- A heap in which a cell was put where cells are made.
use Rattle.std.proofs.Common.{◌≡◌, ℕ, ◌+◌, ◌<◌, ◌≤◌, [], ◌∷◌, length, slice_get, refl}
use Rattle.std.proofs.Common.{sym, ◌∙◌, ap, arith, inl, inr, add-zero}
use Rattle.std.proofs.lemmas.List.{append-nil}
use Rattle.std.proofs.lemmas.List.Elements.{All-nil}
use Rattle.std.proofs.lemmas.Bool.{cases_lt}
use Rattle.std.proofs.lemmas.Option.{slice_get_within}
use Rattle.tagged_word.specs.Headers.{header_bits}
use Rattle.tagged_word.specs.Layouts.{layout_bits}
use Rattle.tagged_word.specs.Shapes.{shapes_most}
use Rattle.tagged_word.specs.Cells.{length_by}
use Rattle.page_space.specs.Extents.{segments_start, layouts_start}
use Rattle.page_space.proofs.Starts.{roots_start_is, layouts_start_is, marks_start_is}
use Rattle.shape_tree.specs.ShapeLayouts.{layout_word}
use Rattle.cell_layout.specs.Cells.{IsCell, IsRow}
use Rattle.heap_model.specs.Heaps.{Heap, words_of_cell}
use Rattle.heap_model.specs.Kinds.{IsSoundCell}
use Rattle.heap_model.specs.Wholeness.{Whole, HasSizes}
use Rattle.heap_model.specs.Changes.{IsRunOf, IsChange, CellsChange, IsOwnChange}
use Rattle.heap_model.proofs.BoundHeaps.{none_in}
use Rattle.heap_model.proofs.MadeCells.{made_cells_are_own}
use Rattle.heap_model.proofs.WholeStays.{own_changes_keep_whole}
use Rattle.heap_model.proofs.WordChanges.{changes_keep_cells}
use Rattle.write_barrier.specs.Values.{with_range}
use Rattle.object_cells.proofs.RunCells.{AreOfRegion, run_cell}
use Rattle.mutator.proofs.NewCells.{NewCell, cell_of, RefersNowhere, fresh_refers_not}
use Rattle.mutator.proofs.PutWords.{length-with_range, with_range_before, with_range_inside, with_range_behind}
use Rattle.mutator.proofs.PutWords.{slice_range-with_range}

-- the heap with the words of a cell at an address, where so many words of eden are used then
abbrev pub with_cell : Heap → ℕ → ℕ → NewCell → Heap
with_cell heap at used one = record heap { used = used; words = with_range heap.words at one.words }

-- The cell may be made at the address, of words of one region, which are a run; and its shape has the layout that it
-- has.
pub record HasRoomFor (heap : Heap) (at used : ℕ) (one : NewCell) : Type 0 where
  pub sized : HasSizes heap
  pub fresh : RefersNowhere one
  pub known : one.header.shape < shapes_most
  pub laid : layout_word heap.paths one.header.shape ≡ layout_bits one.layout
  pub region : AreOfRegion heap.space at (at + one.size)
  pub run : IsRunOf heap (with_cell heap at used one) at (at + one.size)
  pub few : heap.survivors + used ≤ heap.space.sizes.young

-- the cell ends before the roots
pub before_words : {heap : Heap} {at used : ℕ} {one : NewCell} → HasRoomFor heap at used one
    → at + length one.words ≤ length heap.words
before_words {heap} fits =
    omega (
      arith,
      fits.region.below,
      fits.fresh.long,
      roots_start_is heap.space,
      layouts_start_is heap.space,
      marks_start_is heap.space,
      fits.sized.words,
    )

-- words beside those of the cell stay
pub beside_stays : {heap : Heap} {at used : ℕ} {one : NewCell} (place : ℕ) → HasRoomFor heap at used one
    → (at ≤ place → place < at + one.size → ⊥)
    → slice_get (with_cell heap at used one).words place ≡ slice_get heap.words place
beside_stays {heap} {at} {one = one} place fits apart = elim (cases_lt place at) [
  | inl before ↦ with_range_before heap.words one.words at place (before_words fits) before
  | inr from ↦ elim (cases_lt place (at + one.size)) [
    | inl inside ↦ absurd (apart from inside)
    | inr behind ↦
        with_range_behind heap.words one.words at place (before_words fits)
        (omega (arith, behind, fits.fresh.long))
  ]
]

-- words from the segments on stay
behind_stays : {heap : Heap} {at used : ℕ} {one : NewCell} (place : ℕ) → HasRoomFor heap at used one
    → segments_start heap.space ≤ place
    → slice_get (with_cell heap at used one).words place ≡ slice_get heap.words place
behind_stays place fits from =
    beside_stays place fits (λ above below. omega (arith, below, from, fits.region.below))

-- there are as many words, and the layout words are the same
pub with_cell_sized : {heap : Heap} {at used : ℕ} {one : NewCell} → HasRoomFor heap at used one
    → HasSizes (with_cell heap at used one)
with_cell_sized {heap} {at} {one = one} fits = record {
  words = length-with_range heap.words one.words at (before_words fits) ∙ fits.sized.words;
  shapes = fits.sized.shapes;
  layouts = λ shape below.
      behind_stays (layouts_start heap.space + shape) fits
      (omega (arith, roots_start_is heap.space, layouts_start_is heap.space))
      ∙ fits.sized.layouts shape below;
}

-- it has its words
pub with_cell_words : {heap : Heap} {at used : ℕ} {one : NewCell} → HasRoomFor heap at used one
    → words_of_cell (with_cell heap at used one) (cell_of at one) ≡ one.words
with_cell_words {heap} {at} {one = one} fits =
    slice_range-with_range heap.words one.words at one.size (before_words fits) fits.fresh.long

-- the cell stands there
with_cell_is : {heap : Heap} {at used : ℕ} {one : NewCell} → HasRoomFor heap at used one
    → IsCell heap.space (with_cell heap at used one).words (cell_of at one)
with_cell_is {heap} {at} {used} {one} fits =
    let new : Heap = with_cell heap at used one in
    let some : 0 < length one.words =
    slice_get_within one.words 0 (header_bits one.header) fits.fresh.first in
    run_cell new (cell_of at one) (with_cell_sized fits) (record {
      is_header = fits.fresh.is_header;
      known = fits.known;
      is_layout = fits.fresh.is_layout;
      laid = fits.laid;
      sized = fits.fresh.sized;
      some = omega (arith, some, fits.fresh.long);
      first = ap (slice_get new.words) (sym (add-zero at))
          ∙ with_range_inside heap.words one.words at 0 (before_words fits) some ∙ fits.fresh.first;
      second = ap (λ has. length_by has (slice_get new.words (at + 1))) fits.fresh.no_length;
    }) fits.region

-- it is the row of its words
pub with_cell_row : {heap : Heap} {at used : ℕ} {one : NewCell} → HasRoomFor heap at used one
    → IsRow heap.space (with_cell heap at used one).words at (at + one.size) (cell_of at one ∷ [])
with_cell_row {at = at} {one = one} fits =
    IsRow.next (cell_of at one) (at + one.size) [] (with_cell_is fits) (IsRow.none (at + one.size))

-- only words of the run have changed, in which the cell stands
with_cell_changes : {heap : Heap} {at used : ℕ} {one : NewCell} → HasRoomFor heap at used one
    → IsChange heap (with_cell heap at used one) [] (cell_of at one ∷ [])
with_cell_changes {heap} {at} {used} {one} fits = record {
  same_space = refl;
  same_survivors = refl;
  room = fits.few;
  more = [];
  paths = sym (append-nil heap.paths);
  sized = with_cell_sized fits;
  each = All-nil _;
  apart = λ one other place there there_too. absurd (none_in one there);
  from = at;
  to = at + one.size;
  run = fits.run;
  beside = λ patch place there. absurd (none_in patch there);
  made_stand = with_cell_row fits;
  cells_stay = λ place below free apart. beside_stays place fits apart;
  roots_stay = λ place from below. behind_stays place fits (omega (arith, roots_start_is heap.space));
}

-- what comes of putting the cell: the heap is whole, and the cell was made
pub record IsPutCell (heap new : Heap) (at : ℕ) (one : NewCell) : Type 0 where
  pub whole : Whole new
  pub cells : CellsChange heap new [] [] (cell_of at one ∷ [])
  pub own : IsOwnChange heap new [] [] (cell_of at one ∷ [])
  pub words : words_of_cell new (cell_of at one) ≡ one.words

-- what the cell is in the heap in which it was put
abbrev pub IsSoundThere : Heap → ℕ → ℕ → NewCell → Type 0
IsSoundThere heap at used one =
    let new = with_cell heap at used one in
    IsSoundCell new (cell_of at one) (words_of_cell new (cell_of at one))

-- so it is of a whole heap that has room, where it is sound there
pub with_cell_put : {heap : Heap} {at used : ℕ} {one : NewCell} → Whole heap → HasRoomFor heap at used one
    → IsSoundThere heap at used one → IsPutCell heap (with_cell heap at used one) at one
with_cell_put {heap} {at} {used} {one} whole fits sound =
    let new : Heap = with_cell heap at used one in
    let cell = cell_of at one in
    let (rows, cells) = changes_keep_cells heap new [] (cell ∷ []) whole (with_cell_changes fits) in
    let words = with_cell_words fits in
    let own = made_cells_are_own heap new cell sound (fresh_refers_not new at fits.fresh words) cells in
    record {
      whole = own_changes_keep_whole heap new [] [] (cell ∷ []) whole (with_cell_sized fits) rows cells own;
      cells = cells;
      own = own;
      words = words;
    }
