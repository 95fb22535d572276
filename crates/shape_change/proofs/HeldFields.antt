-- What a variable comes to hold of a field, by the class of its word.
use Rattle.std.proofs.Common.{◌≡◌, Bool, true, false, ℕ, refl, arith}
use Rattle.std.specs.Prelude.{ℤ}
use Rattle.tagged_word.specs.declared.word.Class.TheVariants.{Small, Ref, Odd}
use Rattle.tagged_word.specs.Odds.{undefined_code, hole_code}
use Rattle.tagged_word.specs.Words.{IsClass, bits_of}
use Rattle.page_space.specs.RegionLaws.{IsSpace}
use Rattle.object_graph.specs.declared.value.Value.TheVariants as value
use Rattle.object_graph.specs.declared.value.Rep.TheVariants as rep
use Rattle.heap_model.specs.Types.{Class, Value, Rep}
use Rattle.heap_model.specs.Heaps.{Heap}
use Rattle.heap_model.specs.Slots.{IsSlotWord}
use Rattle.heap_model.specs.Showing.{ShowsValue, ShowsWide, ShowsField}
use Rattle.heap_model.specs.Wholeness.{HasSizes}
use Rattle.write_barrier.specs.ValueLaws.{ShowsByClass}
use Rattle.write_barrier.proofs.ShownHeld.{box_by_class, shown_values_are_held}
use Rattle.object_cells.proofs.WordsTold.{cell_fits}

-- a word of a class
pub record HasClass (word : ℕ) : Type 0 where
  pub class : Class
  pub is_class : IsClass class
  pub bits : word ≡ bits_of class

-- the word of a slot has one
pub slot_class : {heap : Heap} (word : ℕ) → IsSpace heap.space → HasSizes heap → IsSlotWord heap word → HasClass word
slot_class word space sized (IsSlotWord.small_integer v is) = record { class = Small v; is_class = is; bits = refl }
slot_class word space sized IsSlotWord.undefined =
    record { class = Odd undefined_code; is_class = omega arith; bits = refl }
slot_class word space sized IsSlotWord.hole = record { class = Odd hole_code; is_class = omega arith; bits = refl }
slot_class word space sized (IsSlotWord.object to object) =
    let place = object.1.place in
    let few = cell_fits sized space place.has in
    record { class = Ref object.1.at; is_class = omega (arith, few, place.stands); bits = object.1.refers }
slot_class word space sized (IsSlotWord.boxed to v box) =
    let few = cell_fits sized space box.target.has in
    record { class = Ref box.cell.at; is_class = omega (arith, few); bits = box.target.refers }

-- a wide field that is not raw shows its integer by its word's class
wide_by_class : {heap : Heap} (own : Bool) (word : ℕ) (v : ℤ) → IsSpace heap.space → HasSizes heap
    → (own ≡ true → ⊥) → ShowsWide heap own word v → ShowsByClass heap word (value.Int v)
wide_by_class true word v space sized tagged shows = absurd (tagged refl)
wide_by_class {heap} false word v space sized tagged shows = box_by_class heap word v space sized shows

-- so does each field whose word is not raw
pub field_by_class : {heap : Heap} {own : Bool} {word : ℕ} {one : Rep} {what : Value} → IsSpace heap.space
    → HasSizes heap → (own ≡ true → one ≡ rep.Wide → ⊥) → ShowsField heap own word one what
    → ShowsByClass heap word what
field_by_class {heap} {word = word} space sized tagged (ShowsField.small_integer v is same) =
    shown_values_are_held heap word (value.Int v) space sized (ShowsValue.small_integer v is same)
field_by_class {own = own} {word} space sized tagged (ShowsField.wide v shows) =
    wide_by_class own word v space sized (λ raw. tagged raw refl) shows
field_by_class {heap} {word = word} space sized tagged (ShowsField.tagged of shows) =
    shown_values_are_held heap word of space sized shows
