-- Where the fields of a plain object become others, and words were put surely, what is recorded follows the change of
-- cells, surely too.
use Rattle.std.proofs.Common.{◌≡◌, ℕ, ◌+◌, ◌<◌, inl, inr, List, ◌∷◌}
use Rattle.std.proofs.Common.{sym, ◌∙◌, ap}
use Rattle.std.proofs.lemmas.Bool.{cases_eq}
use Rattle.tagged_word.specs.Cells.{plain_head}
use Rattle.page_space.specs.Extents.{eden_start}
use Rattle.heap_model.specs.Types.{Cell, Path}
use Rattle.heap_model.specs.Remembered.{Touch, TouchesMade}
use Rattle.write_barrier.specs.MutatorState.{Mutator, heap_of}
use Rattle.write_barrier.specs.Recording.{touched_again, touched_one, touched_then}
use Rattle.write_barrier.specs.SureStores.{StoresSurely}
use Rattle.write_barrier.proofs.TouchedRanges.{touched_here, touched_other}
use Rattle.object_cells.specs.CellWrites.{reshaped}
use Rattle.object_cells.specs.SureCells.{RemembersSurely}
use Rattle.object_cells.proofs.TouchedCells.{FitsTouch, IsBeside, fits_one, fits_then, made_then, one_cell_touched}
use Rattle.object_cells.proofs.TouchedCells.{then_kept}
use Rattle.object_cells.proofs.TouchedFields.{Refields, TouchesObject, fields_kept, header_apart, header_fits}
use Rattle.object_cells.proofs.PathOffsets.{AreAlike}
use Rattle.object_cells.proofs.SureCells.{remembers_surely}

-- what is wiped was not stored
wiped_never : (first : Touch) → touched_again first Touch.Wiped ≡ Touch.Stored → ⊥
wiped_never first is = cc

-- a word that is put as no slot's leaves what was put before
pub wiped_again : {new : Mutator} {touch : ℕ → Touch} (one : ℕ) → StoresSurely new touch
    → StoresSurely new (touched_then touch (touched_one Touch.Wiped one))
wiped_again {touch = touch} one surely = record {
  sure = λ mark at below bound stored. surely.sure mark at below bound (elim (cases_eq at one) [
    | inl same ↦
        absurd (wiped_never (touch at) (sym (ap (touched_again (touch at))
        (ap (touched_one Touch.Wiped one) same ∙ touched_here Touch.Wiped one)) ∙ stored))
    | inr apart ↦ sym (ap (touched_again (touch at)) (touched_other Touch.Wiped one at apart)) ∙ stored
  ]);
}

-- the same where the fields of a plain object become others in its own cells: its header is put as no slot's word
pub fields_remembered_surely : {old new : Mutator} {cell : Cell} {next : ℕ} {others made : List Cell}
    {before after : Path} {from to : ℕ} (touch : ℕ → Touch)
    (r : Refields (heap_of old) (heap_of new) cell next others made before after)
    → TouchesObject old new cell.at touch
    → ((at : ℕ) → at < eden_start old.seat.space → IsBeside from to at
    → FitsTouch (cell ∷ others) (reshaped new.paths cell next ∷ others) at (touch at))
    → ((number : ℕ) → number < before.cap → cell.at + (plain_head + number) < eden_start old.seat.space
    → touch (cell.at + (plain_head + number)) ≡ Touch.Kept → AreAlike before after number)
    → TouchesMade (heap_of old) from to made touch → StoresSurely new touch
    → RemembersSurely old new (cell ∷ others) (reshaped new.paths cell next ∷ others) made
fields_remembered_surely {old} {new} {cell} {next} {others} {from = from} {to} touch r (TouchesObject.slots touches)
    fits alike of_made surely =
    let eden = eden_start old.seat.space in
    remembers_surely touch touches
    (one_cell_touched eden from to cell (reshaped new.paths cell next) others touch fits
    (λ at below beside kept. fields_kept r eden touch alike at below kept))
    of_made surely
fields_remembered_surely {old} {new} {cell} {next} {others} {from = from} {to} touch r (TouchesObject.header touches)
    fits alike of_made surely =
    let eden = eden_start old.seat.space in
    let one : Cell = reshaped new.paths cell next in
    let head = touched_one Touch.Wiped cell.at in
    let both = touched_then touch head in
    remembers_surely both touches
    (one_cell_touched eden from to cell one others both
    (λ at below beside. fits_then (cell ∷ others) (one ∷ others) touch head at (fits at below beside)
    (fits_one (cell ∷ others) (one ∷ others) Touch.Wiped cell.at at (header_fits r)))
    (λ at below beside kept. fields_kept r eden touch alike at below (then_kept touch head at kept).0))
    (made_then touch head of_made (header_apart r of_made))
    (wiped_again cell.at surely)
