-- What was touched where the fields of a plain object became others: its header, slots of its fields, its slot for the
-- store, slots of its store, and integers of its boxes.
use Rattle.std.proofs.Common.{◌≡◌, ℕ, ◌+◌, ◌≤◌, ◌<◌, ◌↔◌, List, ◌∷◌, Contains, Some, length, slice_get, refl, ◌∙◌}
use Rattle.std.proofs.Common.{ap, arith}
use Rattle.std.proofs.lemmas.List.Elements.{Contains-append_left}
use Rattle.tagged_word.specs.declared.layout.Kind.TheVariants as kind
use Rattle.tagged_word.specs.Cells.{plain_head, store_slot, is_object_kind}
use Rattle.tagged_word.proofs.Members.{first_in, rest_in}
use Rattle.page_space.specs.Extents.{eden_start}
use Rattle.object_graph.specs.declared.value.Rep.TheVariants as rep
use Rattle.shape_tree.specs.Shapes.{IsPathShape, shape_path}
use Rattle.shape_tree.specs.ShapeLayouts.{layout_of, raw_bit}
use Rattle.heap_model.specs.Types.{LayoutWord, Path, PathField, Cell}
use Rattle.heap_model.specs.Heaps.{Heap, HasCell, words_of_cell}
use Rattle.heap_model.specs.Wholeness.{Whole, HasRows}
use Rattle.heap_model.specs.Changes.{CellsChange}
use Rattle.heap_model.specs.Remembered.{IsSlotOf, Touch, TouchesMade}
use Rattle.heap_model.proofs.CellOutcomes.{object_is_no_filler}
use Rattle.heap_model.proofs.CellsApart.{IsOfCell, first_of_cell}
use Rattle.heap_model.proofs.PathLayouts.{layout_is}
use Rattle.write_barrier.specs.MutatorState.{Mutator, heap_of}
use Rattle.write_barrier.specs.Recording.{Touches, touched_one, touched_then, Remembers}
use Rattle.write_barrier.proofs.TouchedRanges.{touched_other}
use Rattle.object_cells.specs.CellWrites.{reshaped}
use Rattle.object_cells.specs.SlotChanges.{WritesFields}
use Rattle.object_cells.proofs.OwnerWrites.{plain_owns, written_own_keeps_cells}
use Rattle.object_cells.proofs.OwnPlaces.{box_size}
use Rattle.object_cells.proofs.SlotsNow.{plain_cell_size}
use Rattle.object_cells.proofs.TouchedCells.{FitsTouch, IsBeside, one_cell_touched, fits_then, fits_one, then_kept}
use Rattle.object_cells.proofs.TouchedCells.{kept_fits, made_then, begins_beside, remembers}
use Rattle.object_cells.proofs.TouchedOffsets.{IsBehindHead, header_is_no_slot, object_store_slot, store_has_slot}
use Rattle.object_cells.proofs.TouchedOffsets.{box_has_no_slots}
use Rattle.object_cells.proofs.PathOffsets.{AreAlike, slots_alike, plain_by_path, field_has_slot, wide_is_no_slot}
use Rattle.object_cells.proofs.PathOffsets.{unused_is_no_slot}
use Rattle.object_cells.proofs.FittingCells.{new_slot_fits, slot_fits, word_fits}

-- The fields of a plain object become others in its own cells: cells stand again, and its layout, that of the path of
-- the fields before, becomes that of the path after, which has the same cap.
pub record Refields (old new : Heap) (cell : Cell) (next : ℕ) (others made : List Cell) (before after : Path) : Type 0
  where
    pub has : HasCell old cell (words_of_cell old cell)
    pub stood : (other : Cell) → Contains others other → HasCell old other (words_of_cell old other)
    pub rows : HasRows new
    pub cells : CellsChange old new (cell ∷ others) (reshaped new.paths cell next ∷ others) made
    pub was : cell.layout ≡ layout_of before
    pub is : layout_of (shape_path new.paths next) ≡ layout_of after
    pub cap : before.cap ≡ after.cap

-- so they do where words of these cells were written
pub refields : {old new : Heap} {cell : Cell} {next : ℕ} {others made : List Cell} {before after : Path} → Whole old
    → HasCell old cell (words_of_cell old cell) → IsPathShape old.paths cell.header.shape
    → shape_path old.paths cell.header.shape ≡ before → shape_path new.paths next ≡ after → before.cap ≡ after.cap
    → WritesFields old new cell next others made → Refields old new cell next others made before after
refields whole has shape was is cap writes =
    let kept = written_own_keeps_cells plain_owns whole writes in
    record {
      has = has;
      stood = λ other among. (writes.beside other among).stood;
      rows = kept.0;
      cells = kept.1;
      was = layout_is whole.sized has shape ∙ ap layout_of was;
      is = ap layout_of is;
      cap = cap;
    }

module _ {old new : Heap} {cell : Cell} {next : ℕ} {others made : List Cell} {before after : Path}
    (r : Refields old new cell next others made before after) where
  -- the cells that went and those that came, the object's own first
  abbrev pub gone : List Cell
  gone = cell ∷ others

  abbrev pub one_now : Cell
  one_now = reshaped new.paths cell next

  abbrev pub came : List Cell
  came = one_now ∷ others

  -- those that came stand
  came_stand : (one : Cell) → Contains came one → HasCell new one (words_of_cell new one)
  came_stand one among = r.cells.comes one (Contains-append_left came made one among)

  now_stands : HasCell new one_now (words_of_cell new one_now)
  now_stands = came_stand one_now (first_in one_now others)

  -- a word of the object's cell that is no slot of it then fits where no slot's was put
  own_fits : {at : ℕ} → IsOfCell cell at → (IsSlotOf one_now at → ⊥) → FitsTouch gone came at Touch.Wiped
  own_fits of_cell none =
      word_fits cell one_now r.rows came_stand (first_in cell others) of_cell now_stands
      (record { from = of_cell.from; below = of_cell.below }) none

  -- so does its header
  pub header_fits : FitsTouch gone came cell.at Touch.Wiped
  header_fits = own_fits (first_of_cell r.has) (header_is_no_slot one_now)

  -- the in-object slots are words of the cell
  pub own_of_cell : (number : ℕ) → number < before.cap → IsOfCell cell (cell.at + (plain_head + number))
  own_of_cell number below =
      let size = plain_cell_size r.has (plain_by_path cell before r.was) in
      let cap = ap (λ (layout : LayoutWord). layout.cap) r.was in
      record { from = omega arith; below = omega (arith, size, cap, below) }

  -- that of a field which is not wide fits where its word was put
  pub own_stored : (number : ℕ) (field : PathField) → number < before.cap → slice_get after.fields number ≡ Some field
      → raw_bit field.rep ≡ 0 → FitsTouch gone came (cell.at + (plain_head + number)) Touch.Stored
  own_stored number field below there tagged =
      new_slot_fits cell one_now (first_in cell others) (own_of_cell number below) (first_in one_now others)
      (field_has_slot one_now after number field r.is (omega (arith, below, r.cap)) there tagged)

  -- that of a wide one where a raw word was put
  pub own_wiped : (number : ℕ) (field : PathField) → number < before.cap → slice_get after.fields number ≡ Some field
      → field.rep ≡ rep.Wide → FitsTouch gone came (cell.at + (plain_head + number)) Touch.Wiped
  own_wiped number field below there wide =
      own_fits (own_of_cell number below) (wide_is_no_slot one_now after number field r.is there wide)

  -- and that of no field where it was emptied
  pub own_emptied : (number : ℕ) → number < before.cap → length after.fields ≤ number
      → FitsTouch gone came (cell.at + (plain_head + number)) Touch.Wiped
  own_emptied number below past =
      own_fits (own_of_cell number below) (unused_is_no_slot one_now after number r.is past)

  -- the slot for the store fits where a reference was put in it
  pub store_slot_fits : FitsTouch gone came (cell.at + store_slot) Touch.Stored
  store_slot_fits =
      let size = plain_cell_size r.has (plain_by_path cell before r.was) in
      new_slot_fits cell one_now (first_in cell others) (record { from = omega arith; below = omega (arith, size) })
      (first_in one_now others) (object_store_slot one_now refl)

  -- a slot of the object's store fits
  pub beside_fits : {at : ℕ} (other : Cell) → Contains others other → other.layout.kind ≡ kind.Store
      → IsBehindHead other other.length at → FitsTouch gone came at Touch.Stored
  beside_fits other among of_kind behind =
      slot_fits (r.stood other among) (rest_in cell others other among) (rest_in one_now others other among)
      (store_has_slot of_kind behind)

  -- and so does the integer of a box
  pub box_fits : (other : Cell) → Contains others other → other.layout.kind ≡ kind.Boxed
      → FitsTouch gone came (other.at + 1) Touch.Wiped
  box_fits other among of_kind =
      let has = r.stood other among in
      let there = rest_in one_now others other among in
      let of_cell : IsOfCell other (other.at + 1) =
      record { from = omega arith; below = omega (arith, box_size has of_kind) } in
      word_fits other other r.rows came_stand (rest_in cell others other among) of_cell (came_stand other there) of_cell
      (box_has_no_slots of_kind)

  -- what was kept is a slot of the object then exactly where it was one, if fields whose slots were kept are alike
  pub fields_kept : (eden : ℕ) (touch : ℕ → Touch)
      → ((number : ℕ) → number < before.cap → cell.at + (plain_head + number) < eden
      → touch (cell.at + (plain_head + number)) ≡ Touch.Kept → AreAlike before after number)
      → (at : ℕ) → at < eden → touch at ≡ Touch.Kept → IsSlotOf cell at ↔ IsSlotOf one_now at
  fields_kept eden touch alike at below kept =
      slots_alike before after r.was r.is refl r.cap (λ number few stands.
      alike number few (omega (arith, below, stands)) (ap touch stands ∙ kept))

-- each address of a page was touched so; then the header of the object at the address may have been put
pub data TouchesObject (old new : Mutator) (object : ℕ) (touch : ℕ → Touch) : Type 0 where
  slots : Touches old new touch → TouchesObject old new object touch
  header : Touches old new (touched_then touch (touched_one Touch.Wiped object)) → TouchesObject old new object touch

-- the free runs are the same then
pub object_free : {old new : Mutator} {object : ℕ} {touch : ℕ → Touch} → TouchesObject old new object touch
    → new.free ≡ old.free
object_free (TouchesObject.slots touches) = touches.free
object_free (TouchesObject.header touches) = touches.free

-- the object's header is none of the run, so wiping it fits there
pub header_apart : {old new : Heap} {cell : Cell} {next : ℕ} {others made : List Cell} {before after : Path}
    {from to : ℕ} {touch : ℕ → Touch} → Refields old new cell next others made before after
    → TouchesMade old from to made touch → (at : ℕ) → at < eden_start old.space → from ≤ at → at < to
    → FitsTouch made made at (touched_one Touch.Wiped cell.at at)
header_apart {cell = cell} {made = made} {before = before} r of_made at below begins ends =
    kept_fits made made at (touched_one Touch.Wiped cell.at at)
    (touched_other Touch.Wiped cell.at at (λ same.
    let plain = plain_by_path cell before r.was in
    let no_filler = object_is_no_filler cell.layout.kind (ap is_object_kind plain) in
    begins_beside of_made r.has no_filler (omega (arith, below, same)) (omega (arith, begins, same))
    (omega (arith, ends, same))))

-- So the change of the fields is remembered, where each address beside the run of the cells that were made fits its
-- touch, fields whose slots were kept are alike, and the run was touched as it has to be.
pub fields_remembered : {old new : Mutator} {cell : Cell} {next : ℕ} {others made : List Cell} {before after : Path}
    {from to : ℕ} (touch : ℕ → Touch) (r : Refields (heap_of old) (heap_of new) cell next others made before after)
    → TouchesObject old new cell.at touch
    → ((at : ℕ) → at < eden_start old.seat.space → IsBeside from to at
    → FitsTouch (cell ∷ others) (reshaped new.paths cell next ∷ others) at (touch at))
    → ((number : ℕ) → number < before.cap → cell.at + (plain_head + number) < eden_start old.seat.space
    → touch (cell.at + (plain_head + number)) ≡ Touch.Kept → AreAlike before after number)
    → TouchesMade (heap_of old) from to made touch
    → Remembers old new (cell ∷ others) (reshaped new.paths cell next ∷ others) made
fields_remembered {old} {new} {cell} {next} {others} {from = from} {to} touch r (TouchesObject.slots touches) fits alike
    of_made =
    let eden = eden_start old.seat.space in
    remembers touch touches
    (one_cell_touched eden from to cell (reshaped new.paths cell next) others touch fits
    (λ at below beside kept. fields_kept r eden touch alike at below kept))
    of_made
fields_remembered {old} {new} {cell} {next} {others} {from = from} {to} touch r (TouchesObject.header touches) fits
    alike of_made =
    let eden = eden_start old.seat.space in
    let one : Cell = reshaped new.paths cell next in
    let head = touched_one Touch.Wiped cell.at in
    let both = touched_then touch head in
    remembers both touches
    (one_cell_touched eden from to cell one others both
    (λ at below beside. fits_then (cell ∷ others) (one ∷ others) touch head at (fits at below beside)
    (fits_one (cell ∷ others) (one ∷ others) Touch.Wiped cell.at at (header_fits r)))
    (λ at below beside kept. fields_kept r eden touch alike at below (then_kept touch head at kept).0))
    (made_then touch head of_made (header_apart r of_made))
