-- An integer that is put into a box of an object is in no slot: so what is recorded stays right.
use Rattle.std.proofs.Common.{ℕ, ◌+◌, List, [], ◌∷◌, Contains, sym, subst}
use Rattle.std.specs.Prelude.{ℤ}
use Rattle.tagged_word.proofs.Members.{first_in, rest_in}
use Rattle.page_space.specs.Extents.{eden_start}
use Rattle.heap_model.specs.Types.{Kind, Cell}
use Rattle.heap_model.specs.Heaps.{HasCell, words_of_cell}
use Rattle.heap_model.specs.Slots.{raw_word}
use Rattle.heap_model.specs.Remembered.{Touch}
use Rattle.write_barrier.specs.MutatorState.{Mutator, heap_of, with_word}
use Rattle.write_barrier.specs.Recording.{Touches, touched_one, Remembers}
use Rattle.write_barrier.proofs.Recording.{word_touch}
use Rattle.object_cells.proofs.FittingCells.{word_fits}
use Rattle.object_cells.proofs.OwnIntegers.{PutsInteger, others, one_box, box_has, of_box, within}
use Rattle.object_cells.proofs.SlotsOfCells.{all_stand, one_stands}
use Rattle.object_cells.proofs.TouchedCells.{FitsTouch, same_cells_touched, fits_one, none_made, remembers}
use Rattle.object_cells.proofs.TouchedOffsets.{box_has_no_slots}
use Rattle.write_barrier.specs.SureStores.{StoresSurely}
use Rattle.write_barrier.proofs.SureStores.{wiped_surely}
use Rattle.object_cells.specs.SureCells.{RemembersSurely}
use Rattle.object_cells.proofs.SureCells.{remembers_surely}

module _ {owner owned : Kind} {old new : Mutator} {cell : Cell} {word box : ℕ} {v : ℤ}
    (writing : PutsInteger owner owned old new cell word box v) where
  -- of all addresses that of the integer alone was touched
  pub integer_touches : Touches old new (touched_one Touch.Wiped (box + 1))
  integer_touches =
      subst (λ (main : Mutator). Touches old main (touched_one Touch.Wiped (box + 1))) (sym writing.puts_it)
      (word_touch old (box + 1) (raw_word v) (within writing))

  -- the object's cell and that of the box
  abbrev cells : List Cell
  cells = cell ∷ others writing

  -- both stood there
  cells_stood : (one : Cell) → Contains cells one → HasCell (heap_of old) one (words_of_cell (heap_of old) one)
  cells_stood = all_stand cell (others writing) writing.has (one_stands (one_box writing) (box_has writing))

  -- and neither has a slot there
  integer_fits : FitsTouch cells cells (box + 1) Touch.Wiped
  integer_fits =
      word_fits (one_box writing) (one_box writing) writing.whole.rows cells_stood
      (rest_in cell (others writing) (one_box writing) (first_in (one_box writing) [])) (of_box writing)
      (box_has writing) (of_box writing) (λ slot. box_has_no_slots writing.box_of.box slot)

  -- so the change of the box is remembered
  pub integer_remembers : Remembers old new (cell ∷ others writing) (cell ∷ others writing) []
  integer_remembers =
      let touch : ℕ → Touch = touched_one Touch.Wiped (box + 1) in
      remembers touch integer_touches
      (same_cells_touched (eden_start old.seat.space) 0 0 cells touch
      (λ at below beside. fits_one cells cells Touch.Wiped (box + 1) at integer_fits))
      (none_made (heap_of old) touch)

  -- and no word of a slot is put
  pub integer_remembers_surely : RemembersSurely old new (cell ∷ others writing) (cell ∷ others writing) []
  integer_remembers_surely =
      let touch : ℕ → Touch = touched_one Touch.Wiped (box + 1) in
      remembers_surely touch integer_touches
      (same_cells_touched (eden_start old.seat.space) 0 0 cells touch
      (λ at below beside. fits_one cells cells Touch.Wiped (box + 1) at integer_fits))
      (none_made (heap_of old) touch)
      (subst (λ (main : Mutator). StoresSurely main touch) (sym writing.puts_it)
      (wiped_surely (with_word old (box + 1) (raw_word v)) (box + 1)))
