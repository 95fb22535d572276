-- What was touched where the word of one slot of a plain object was put, in the object or in its store, or the integer
-- of a box to which a slot refers.
use Rattle.std.specs.Prelude.{ℤ}
use Rattle.std.proofs.Common.{◌≡◌, ◌≢◌, ℕ, ◌+◌, ◌<◌, ◌≤◌, inl, inr, Bool, true, false, List, [], ◌∷◌, Some, slice_get}
use Rattle.std.proofs.Common.{nat_lt, set, refl, sym, ◌∙◌, ap, subst, arith}
use Rattle.std.proofs.lemmas.Bool.{cases_eq, lt-ltb, false≢true}
use Rattle.std.proofs.lemmas.Bool.Decides.{nat_tests}
use Rattle.tagged_word.specs.declared.layout.Kind.TheVariants as kind
use Rattle.tagged_word.specs.Cells.{plain_head, store_slot}
use Rattle.tagged_word.proofs.Members.{first_in}
use Rattle.object_graph.specs.declared.value.Rep.TheVariants as rep
use Rattle.object_graph.specs.Paths.{path_of}
use Rattle.shape_tree.specs.ShapeLayouts.{raw_bit}
use Rattle.heap_model.specs.Types.{LayoutWord, Value, Rep, Field, Path, PathField, Cell}
use Rattle.heap_model.specs.Heaps.{Heap, words_of_cell}
use Rattle.heap_model.specs.Wholeness.{Whole}
use Rattle.heap_model.specs.Remembered.{Touch}
use Rattle.write_barrier.specs.MutatorState.{Mutator, heap_of}
use Rattle.write_barrier.specs.Recording.{touched_one}
use Rattle.object_cells.specs.SureCells.{RemembersSurely}
use Rattle.write_barrier.proofs.TouchedRanges.{touched_here}
use Rattle.object_cells.specs.declared.content.SlotContent.{SlotContent}
use Rattle.object_cells.specs.declared.content.SlotContent.TheVariants as content
use Rattle.object_cells.specs.CellWrites.{reshaped}
use Rattle.object_cells.specs.Made.{slot_touch}
use Rattle.object_cells.proofs.HeldContents.{HoldsValue}
use Rattle.object_cells.proofs.NumberedSlots.{IsNumbered, one_address, store_size}
use Rattle.object_cells.proofs.OwnCells.{beside_not_own}
use Rattle.object_cells.proofs.OwnPlaces.{IsSlotPlace, plain_is_object}
use Rattle.object_cells.proofs.PathOffsets.{AreAlike}
use Rattle.object_cells.proofs.TouchedCells.{FitsTouch, fits_one}
use Rattle.object_cells.proofs.OneField.{SetsOne}
use Rattle.object_cells.proofs.PlainFields.{plain_sound}
use Rattle.object_cells.proofs.TouchedFields.{Refields, refields, own_of_cell, own_stored, own_wiped}
use Rattle.object_cells.proofs.TouchedFields.{beside_fits, box_fits}
use Rattle.object_cells.proofs.TouchedFields.{store_slot_fits}
use Rattle.shape_change.specs.Shifts.{rep_touch, field_touch}
use Rattle.shape_change.proofs.RunTouches.{TouchesWith, fields_with_remembered}
use Rattle.shape_change.proofs.SlotTouches.{field_is_touched}

-- the slot of a field that is not wide is touched by a slot's word
tagged_touch : (own : Bool) (name : ℕ) (one : Rep) → (one ≡ rep.Wide → ⊥)
    → Touch.Stored ≡ field_touch own (Some (record { name = name; rep = one }))
tagged_touch true name rep.Small apart = refl
tagged_touch true name rep.Wide apart = absurd (apart refl)
tagged_touch true name rep.Tagged apart = refl
tagged_touch false name one apart = refl

-- tagged is not wide
not_wide : rep.Tagged ≡ rep.Wide → ⊥
not_wide same = cc

-- what a slot comes to hold for a value touches it as the representation of its field says
pub content_touches : {heap : Heap} {own : Bool} {was one : Rep} {what : Value} {holds : SlotContent} (name : ℕ)
    → HoldsValue heap own was one what holds
    → slot_touch holds ≡ field_touch own (Some (record { name = name; rep = one }))
content_touches {own = own} name (HoldsValue.small_integer one v is apart) = tagged_touch own name one apart
content_touches name (HoldsValue.raw v own apart) =
    ap (λ (o : Bool). field_touch o (Some (record { name = name; rep = rep.Wide }))) (sym own)
content_touches name (HoldsValue.wide_box v beside apart small) =
    ap (λ (o : Bool). field_touch o (Some (record { name = name; rep = rep.Wide }))) (sym beside)
content_touches {own = own} name (HoldsValue.tagged_box v wide tagged) = tagged_touch own name rep.Tagged not_wide
content_touches {own = own} name HoldsValue.undefined = tagged_touch own name rep.Tagged not_wide
content_touches {own = own} name (HoldsValue.object at number place) = tagged_touch own name rep.Tagged not_wide

-- an in-object slot that comes to refer to a box was and is not raw
pub boxed_not_raw : {heap : Heap} {own : Bool} {was one : Rep} {what : Value} (v : ℤ)
    → HoldsValue heap own was one what (content.Boxed v) → own ≡ true → (raw_bit was ≡ 0) × (raw_bit one ≡ 0)
boxed_not_raw v (HoldsValue.wide_box of beside apart small) is = absurd (false≢true (sym beside ∙ is))
boxed_not_raw v (HoldsValue.tagged_box of wide tagged) is = (ap raw_bit tagged, refl)

module _ {old new : Heap} {cell : Cell} {next : ℕ} {others made : List Cell} {before after : Path}
    (r : Refields old new cell next others made before after) where
  -- what becomes of an address fits
  abbrev Fits : ℕ → Touch → Type 0
  Fits at how = FitsTouch (cell ∷ others) (reshaped new.paths cell next ∷ others) at how

  -- the slot of a field in the object fits its touch, by its representation
  rep_fits : (number : ℕ) (field : PathField) (one : Rep) → number < before.cap
      → slice_get after.fields number ≡ Some field → field.rep ≡ one
      → Fits (cell.at + (plain_head + number)) (rep_touch one)
  rep_fits number field rep.Small below there is = own_stored r number field below there (ap raw_bit is)
  rep_fits number field rep.Wide below there is = own_wiped r number field below there is
  rep_fits number field rep.Tagged below there is = own_stored r number field below there (ap raw_bit is)

  -- so it fits
  pub field_fits : (number : ℕ) (field : PathField) → number < before.cap → slice_get after.fields number ≡ Some field
      → Fits (cell.at + (plain_head + number)) (rep_touch field.rep)
  field_fits number field below there = rep_fits number field field.rep below there refl

  -- and so does a slot of either place
  numbered_fits : {slot at store : ℕ} (field : PathField) → Whole old → cell.layout.kind ≡ kind.Plain
      → IsNumbered old cell (words_of_cell old cell) slot at → IsSlotPlace old cell store at others
      → slice_get after.fields slot ≡ Some field → Fits at (field_touch (nat_lt slot cell.layout.cap) (Some field))
  numbered_fits {slot} {at} field whole plain (IsNumbered.own below is of_cell) place there =
      let test = lt-ltb slot cell.layout.cap below in
      let cap = ap (λ (layout : LayoutWord). layout.cap) r.was in
      subst (λ (own : Bool). Fits at (field_touch own (Some field))) (sym test)
      (subst (λ (a : ℕ). Fits a (rep_touch field.rep)) (sym is)
      (field_fits slot field (omega (arith, below, cap)) there))
  numbered_fits {slot} {at} field whole plain
      (IsNumbered.beside word k other words slot_there refers of_kind counts is of_cell) place there =
      let from : cell.layout.cap ≤ slot = omega (arith, counts) in
      let test : nat_lt slot cell.layout.cap ≡ false = grind (arith, nat_tests) in
      subst (λ (own : Bool). Fits at (field_touch own (Some field))) (sym test)
      (elim place.own.inside [
        | inl in_cell ↦ absurd (beside_not_own at at whole r.has (plain_is_object plain)
            (record { from = in_cell.from; below = in_cell.below }) refers.has (inl of_kind) of_cell refl)
        | inr there_in ↦
            let store : Cell = there_in.0 in
            let stands = place.own.each store there_in.1 in
            let is_store = (place.stores store there_in.1).of_kind in
            let size = store_size stands.stood is_store in
            let inside = there_in.2 in
            beside_fits r store there_in.1 is_store (record {
              from = omega (arith, inside.from, stands.header, stands.length is_store);
              below = omega (arith, inside.below, size);
            })
      ])

-- where a field was set, the path becomes that of the fields with the one set
pub set_refields : {old new : Heap} {cell : Cell} {shape at word slot : ℕ} {others made : List Cell}
    {before : List Field} {field : Field} → SetsOne old new cell shape at word slot others made before field
    → Refields old new cell shape others made (path_of cell.layout.cap before)
    (path_of cell.layout.cap (set before slot field))
set_refields sets =
    let puts = sets.puts in
    refields puts.whole puts.has (plain_sound puts.whole puts.has puts.plain).shape sets.shown.path sets.path refl
    puts.writes

-- where the word of one slot was put, and the header of the object, the change is remembered, if other fields are alike
pub slot_remembered : {old new : Mutator} {cell : Cell} {next : ℕ} {others made : List Cell} {before after : Path}
    {slot at store : ℕ} (field : PathField)
    (r : Refields (heap_of old) (heap_of new) cell next others made before after)
    → Whole (heap_of old) → cell.layout.kind ≡ kind.Plain
    → IsNumbered (heap_of old) cell (words_of_cell (heap_of old) cell) slot at
    → IsSlotPlace (heap_of old) cell store at others → slice_get after.fields slot ≡ Some field
    → ((number : ℕ) → number ≢ slot → AreAlike before after number)
    → TouchesWith old new cell made (touched_one (field_touch (nat_lt slot cell.layout.cap) (Some field)) at)
    → RemembersSurely old new (cell ∷ others) (reshaped new.paths cell next ∷ others) made
slot_remembered {old} {new} {cell} {next} {others} {slot = slot} {at} field r whole plain numbered place there alike
    touches =
    let own : Bool = nat_lt slot cell.layout.cap in
    let how = field_touch own (Some field) in
    let came : List Cell = reshaped new.paths cell next ∷ others in
    let fits = numbered_fits r field whole plain numbered place there in
    let cap = ap (λ (layout : LayoutWord). layout.cap) r.was in
    fields_with_remembered r touches (λ a. fits_one (cell ∷ others) came how at a fits)
    (λ number few kept. elim (cases_eq number slot) [
      | inl same ↦
          let place_at : ℕ = cell.at + (plain_head + number) in
          let of_slot : IsNumbered (heap_of old) cell (words_of_cell (heap_of old) cell) slot place_at =
          IsNumbered.own (omega (arith, few, same, cap)) (omega (arith, same)) (own_of_cell r number few) in
          let one : place_at ≡ at = one_address slot place_at at of_slot numbered in
          absurd (field_is_touched own (Some field)
          (sym (touched_here how at) ∙ ap (touched_one how at) (sym one) ∙ kept))
      | inr apart ↦ alike number apart
    ])

-- one word that fits its touch was put, and all fields are alike
word_remembered : {old new : Mutator} {cell : Cell} {next : ℕ} {others made : List Cell} {before after : Path}
    (how : Touch) (at : ℕ) (r : Refields (heap_of old) (heap_of new) cell next others made before after)
    → FitsTouch (cell ∷ others) (reshaped new.paths cell next ∷ others) at how
    → ((number : ℕ) → number < before.cap → AreAlike before after number)
    → TouchesWith old new cell made (touched_one how at)
    → RemembersSurely old new (cell ∷ others) (reshaped new.paths cell next ∷ others) made
word_remembered {new = new} {cell} {next} {others} how at r fits alike touches =
    fields_with_remembered r touches
    (λ a. fits_one (cell ∷ others) (reshaped new.paths cell next ∷ others) how at a fits)
    (λ number few kept. alike number few)

-- so it is where the integer of a box was put
pub box_remembered : {old new : Mutator} {cell : Cell} {next : ℕ} {made : List Cell} {before after : Path} (box : Cell)
    (r : Refields (heap_of old) (heap_of new) cell next (box ∷ []) made before after) → box.layout.kind ≡ kind.Boxed
    → ((number : ℕ) → number < before.cap → AreAlike before after number)
    → TouchesWith old new cell made (touched_one Touch.Wiped (box.at + 1))
    → RemembersSurely old new (cell ∷ box ∷ []) (reshaped new.paths cell next ∷ box ∷ []) made
box_remembered box r of_kind alike touches =
    word_remembered Touch.Wiped (box.at + 1) r (box_fits r box (first_in box []) of_kind) alike touches

-- and where the slot for the store was
pub store_remembered : {old new : Mutator} {cell : Cell} {next : ℕ} {others made : List Cell} {before after : Path}
    (r : Refields (heap_of old) (heap_of new) cell next others made before after)
    → ((number : ℕ) → number < before.cap → AreAlike before after number)
    → TouchesWith old new cell made (touched_one Touch.Stored (cell.at + store_slot))
    → RemembersSurely old new (cell ∷ others) (reshaped new.paths cell next ∷ others) made
store_remembered {cell = cell} r alike touches =
    word_remembered Touch.Stored (cell.at + store_slot) r (store_slot_fits r) alike touches
