-- What was touched where one word of a plain object's own cells was put, and cells were made for it in a run beside.
use Rattle.std.proofs.Common.{◌≡◌, ℕ, ◌+◌, ◌<◌, List, [], ◌∷◌, Contains, refl, sym, ◌∙◌, subst, arith}
use Rattle.std.proofs.lemmas.List.Elements.{Contains-append_right}
use Rattle.tagged_word.specs.declared.layout.Kind.TheVariants as kind
use Rattle.tagged_word.specs.Cells.{plain_head}
use Rattle.page_space.specs.Extents.{eden_start}
use Rattle.cell_layout.specs.Cells.{IsRow}
use Rattle.write_barrier.specs.Seats.{heap_words}
use Rattle.heap_model.specs.Types.{Path, Cell}
use Rattle.heap_model.specs.Heaps.{Heap, HasCell, words_of_cell}
use Rattle.heap_model.specs.Wholeness.{HasRows, IsOwnedKind}
use Rattle.heap_model.specs.Changes.{IsRunOf}
use Rattle.heap_model.specs.Remembered.{Touch, TouchesMade}
use Rattle.heap_model.proofs.CellOutcomes.{object_is_no_filler, owned_is_no_filler}
use Rattle.heap_model.proofs.CellsApart.{IsOfCell}
use Rattle.write_barrier.specs.MutatorState.{Mutator, heap_of}
use Rattle.write_barrier.specs.Recording.{touched_one, touched_then}
use Rattle.write_barrier.specs.SureStores.{StoresSurely}
use Rattle.object_cells.specs.declared.content.SlotContent.{SlotContent}
use Rattle.object_cells.specs.CellWrites.{reshaped}
use Rattle.object_cells.specs.Contents.{next_at}
use Rattle.object_cells.specs.Made.{content_need, content_touch}
use Rattle.object_cells.proofs.FittingCells.{content_kept}
use Rattle.object_cells.proofs.MadeBoxes.{made_boxes}
use Rattle.object_cells.proofs.MadeTouches.{made_content_fits, box_touched}
use Rattle.object_cells.proofs.NumberedSlots.{IsNumbered}
use Rattle.object_cells.proofs.OwnPlaces.{plain_is_object}
use Rattle.object_cells.proofs.PathOffsets.{AreAlike}
use Rattle.object_cells.proofs.TouchedCells.{FitsTouch, IsBeside, fits_one_apart, fits_then, none_made, then_next}
use Rattle.object_cells.specs.SureCells.{RemembersSurely}
use Rattle.object_cells.proofs.SureFields.{fields_remembered_surely}
use Rattle.object_cells.proofs.TouchedFields.{Refields, TouchesObject, own_of_cell}
use Rattle.object_cells.proofs.UnusedWords.{IsUnusedRun, run_beside}

-- no slot of a plain object has a word of a run that is not used
pub numbered_beside : {heap : Heap} {cell : Cell} {words : List ℕ} {slot at from need : ℕ}
    → IsUnusedRun heap from need → HasCell heap cell words → cell.layout.kind ≡ kind.Plain
    → IsNumbered heap cell words slot at → IsBeside from (from + need) at
numbered_beside {cell = cell} {at = at} run has plain (IsNumbered.own below is of_cell) =
    run_beside at run (object_is_no_filler cell.layout.kind (plain_is_object plain)) has of_cell
numbered_beside {at = at} run has plain
    (IsNumbered.beside store k other others slot refers of_kind counts is of_cell) =
    run_beside at run (owned_is_no_filler other.layout.kind (subst IsOwnedKind (sym of_kind) tt)) refers.has of_cell

-- Each address of a page was touched so, and the header of the object at the address may have been put; words that were
-- put as slots' words were put surely.
pub record TouchesSurely (old new : Mutator) (object : ℕ) (touch : ℕ → Touch) : Type 0 where
  pub touches : TouchesObject old new object touch
  pub surely : StoresSurely new touch

-- Each address of a page was touched so, beside a run in which cells were made; and there as these cells owe it, which
-- stand then. The header of the object's cell, no word of which is of the run, may have been put as well.
pub record TouchesWith (old new : Mutator) (cell : Cell) (made : List Cell) (touch : ℕ → Touch) : Type 0 where
  pub all : ℕ → Touch
  pub touches : TouchesSurely old new cell.at all
  pub from : ℕ
  pub to : ℕ
  pub apart : (at : ℕ) → IsOfCell cell at → IsBeside from to at
  pub beside : (at : ℕ) → at < eden_start old.seat.space → IsBeside from to at → all at ≡ touch at
  pub of_made : HasRows (heap_of new)
      → ((cell : Cell) → Contains made cell → HasCell (heap_of new) cell (words_of_cell (heap_of new) cell))
      → TouchesMade (heap_of old) from to made all

-- so they were where no cell was made
pub touches_alone : {old new : Mutator} {cell : Cell} {touch : ℕ → Touch} → TouchesSurely old new cell.at touch
    → TouchesWith old new cell [] touch
touches_alone {old} {touch = touch} touches = record {
  all = touch;
  touches = touches;
  from = 0;
  to = 0;
  apart = λ at of_cell from below. omega (arith, below);
  beside = λ at below out. refl;
  of_made = λ rows stand. none_made (heap_of old) touch;
}

-- and where the box that a slot needs was made, before a word beside it was put
pub touches_box : {old new : Mutator} {cell : Cell} {place : ℕ} (how : Touch) (holds : SlotContent)
    → IsRunOf (heap_of old) (heap_of new) (next_at old) (next_at old + content_need holds)
    → IsRow new.seat.space (heap_words new.seat) (next_at old) (next_at old + content_need holds)
    (made_boxes holds (next_at old))
    → TouchesSurely old new cell.at (touched_then (content_touch holds (next_at old)) (touched_one how place))
    → ((at : ℕ) → IsOfCell cell at → IsBeside (next_at old) (next_at old + content_need holds) at)
    → IsBeside (next_at old) (next_at old + content_need holds) place
    → TouchesWith old new cell (made_boxes holds (next_at old)) (touched_one how place)
touches_box {old} {place = place} how holds run row touches apart place_apart =
    let next : ℕ = next_at old in
    let ends : ℕ = next + content_need holds in
    let made : List Cell = made_boxes holds next in
    let box = content_touch holds next in
    let put = touched_one how place in
    record {
      all = touched_then box put;
      touches = touches;
      from = next;
      to = ends;
      apart = apart;
      beside = λ at below out.
          then_next box put at (content_kept holds next ends next at (omega arith) (omega arith) out);
      of_made = λ rows stand. box_touched holds next (touched_then box put) run row (λ at below above before.
          fits_then made made box put at (made_content_fits made rows stand holds next at (λ one among. among))
          (fits_one_apart made made how next ends place at place_apart above before));
    }

-- where each address fits its touch, and fields whose slots were kept are alike, the change of the fields is remembered
pub fields_with_remembered : {old new : Mutator} {cell : Cell} {next : ℕ} {others made : List Cell}
    {before after : Path} {touch : ℕ → Touch}
    (r : Refields (heap_of old) (heap_of new) cell next others made before after)
    → TouchesWith old new cell made touch
    → ((at : ℕ) → FitsTouch (cell ∷ others) (reshaped new.paths cell next ∷ others) at (touch at))
    → ((number : ℕ) → number < before.cap → touch (cell.at + (plain_head + number)) ≡ Touch.Kept
    → AreAlike before after number)
    → RemembersSurely old new (cell ∷ others) (reshaped new.paths cell next ∷ others) made
fields_with_remembered {new = new} {cell} {next} {others} {made} r t fits alike =
    let came : List Cell = reshaped new.paths cell next ∷ others in
    fields_remembered_surely t.all r t.touches.touches
    (λ at below out. subst (FitsTouch (cell ∷ others) came at) (sym (t.beside at below out)) (fits at))
    (λ number few below kept.
    let place : ℕ = cell.at + (plain_head + number) in
    alike number few (sym (t.beside place below (t.apart place (own_of_cell r number few))) ∙ kept))
    (t.of_made r.rows (λ one among. r.cells.comes one (Contains-append_right came made one among)))
    t.touches.surely
