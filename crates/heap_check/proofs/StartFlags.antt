-- Cells found by the flags of where cells start.
use Rattle.std.proofs.Common.{◌≡◌, ℕ, Bool, true, List, Option, Some, None, MatchOption, slice_get, sym, ◌∙◌, subst}
use Rattle.std.proofs.Common.{refl}
use Rattle.tagged_word.specs.Readings.{reference_in}
use Rattle.tagged_word.proofs.Readings.{reference_from}
use Rattle.heap_model.specs.Types.{Cell}
use Rattle.cell_layout.specs.Cells.{IsCell, HasNoCell}
use Rattle.cell_layout.proofs.OneCell.{one_cell}
use Rattle.heap_model.specs.Heaps.{Heap, HasCell, words_of_cell}
use Rattle.heap_model.specs.Slots.{reference_word}
use Rattle.heap_model.proofs.CellsApart.{has_is_cell}
use Rattle.heap_model.proofs.WordClasses.{same_reference, small_refers_not, undefined_refers_not, hole_refers_not}
use Rattle.image_walk.specs.Finding.{HasNoCellAt}
use Rattle.image_walk.specs.Sorts.{IsNothing}
use Rattle.heap_check.specs.Marks.{MarksStarts}

-- what the words read as where a flag is set is a cell of the heap
pub found_there : (heap : Heap) (starts : List Bool) (at : ℕ) (found : Option Cell) → MarksStarts heap starts
    → slice_get starts at ≡ Some true
    → MatchOption found (HasNoCell heap.space heap.words at)
    (λ cell. (cell.at ≡ at) × IsCell heap.space heap.words cell)
    → MatchOption found (HasNoCellAt heap at) (λ cell. (cell.at ≡ at) × HasCell heap cell (words_of_cell heap cell))
found_there heap starts at None marks flag none =
    let there = marks.starts_there at flag in
    absurd (none there.0 there.1.2 (has_is_cell there.1.1))
found_there heap starts at (Some cell) marks flag is =
    let there = marks.starts_there at flag in
    let has = there.1.1 in
    let other = there.0 in
    let same : other ≡ cell =
    one_cell heap.space heap.words other cell (has_is_cell has) is.1 (there.1.2 ∙ sym is.0) in
    let stands : HasCell heap other (words_of_cell heap other) = record {
      row = has.row;
      in_region = has.in_region;
      used = has.used;
      in_row = has.in_row;
      words_are = refl;
    } in
    (is.0, subst (λ (one : Cell). HasCell heap one (words_of_cell heap one)) same stands)

-- where none is set, no cell stands
pub none_there : (heap : Heap) (starts : List Bool) (at : ℕ) → MarksStarts heap starts
    → (slice_get starts at ≡ Some true → ⊥) → HasNoCellAt heap at
none_there heap starts at marks flag cell words has here =
    flag (subst (λ (place : ℕ). slice_get starts place ≡ Some true) here (marks.marked cell words has))

-- a reference to an address at which no cell stands stands for nothing
pub nothing_there : (heap : Heap) (word at : ℕ) → reference_in word ≡ Some at → HasNoCellAt heap at
    → IsNothing heap word
nothing_there heap word at read none =
    let refers : word ≡ reference_word at = (reference_from word at read).1 in
    record {
      not_small = λ is. small_refers_not is.0 at (sym is.2 ∙ refers);
      not_undefined = λ same. undefined_refers_not at (sym same ∙ refers);
      not_hole = λ same. hole_refers_not at (sym same ∙ refers);
      refers_not = λ cell words to. none cell words to.has (sym (same_reference at cell.at (sym refers ∙ to.refers)));
    }
