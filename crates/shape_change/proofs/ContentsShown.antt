-- What a slot comes to hold for a value shows the value, and names nothing but a box.
use Rattle.std.proofs.Common.{◌≡◌, ℕ, Bool, true, false, IsTrue}
use Rattle.std.proofs.Common.{refl, sym, ◌∙◌}
use Rattle.std.specs.Prelude.{ℤ, FitsSigned}
use Rattle.std.specs.Int.{w64}
use Rattle.std.proofs.lemmas.Bool.{false≢true}
use Rattle.heap_model.specs.Types.{Word, Value, Rep}
use Rattle.tagged_word.specs.Words.{small}
use Rattle.object_graph.specs.declared.value.Value.TheVariants as value
use Rattle.object_graph.specs.declared.value.Rep.TheVariants as rep
use Rattle.object_graph.specs.Invariants.{IsValue}
use Rattle.heap_model.specs.Heaps.{Heap}
use Rattle.heap_model.specs.Slots.{small_word, raw_word}
use Rattle.heap_model.specs.Slots.{RefersToPlace, RefersToBox}
use Rattle.heap_model.specs.Showing.{ShowsValue, ShowsField}
use Rattle.heap_model.proofs.WordsStay.{PlacesStay}
use Rattle.object_cells.specs.declared.content.SlotContent.TheVariants as content
use Rattle.object_cells.specs.OwnSlots.{NamesNone}
use Rattle.object_cells.proofs.WrittenPlaces.{small_names_none, undefined_names_none, object_names_none}
use Rattle.object_cells.proofs.HeldContents.{HoldsValue}

-- a small integer's word shows it in a slot that is not wide
pub small_shows : {heap : Heap} {own : Bool} (one : Rep) (v : ℤ) → IsTrue (small v) → (one ≡ rep.Wide → ⊥)
    → ShowsField heap own (small_word v) one (value.Int v)
small_shows rep.Small v is apart = ShowsField.small_integer v is refl
small_shows rep.Wide v is apart = absurd (apart refl)
small_shows rep.Tagged v is apart = ShowsField.tagged (value.Int v) (ShowsValue.small_integer v is refl)

-- where the places of objects stay, a tagged word shows its value, and names no store, table or box
pub word_shows : {old new : Heap} {own : Bool} {was one : Rep} {what : Value} (word : Word) → PlacesStay old new
    → HoldsValue old own was one what (content.Tagged word) → ShowsField new own word.0 one what × NamesNone new word.0
word_shows word places (HoldsValue.small_integer one v is apart) = (small_shows one v is apart, small_names_none v)
word_shows word places HoldsValue.undefined =
    (ShowsField.tagged value.Undefined (ShowsValue.undefined refl), undefined_names_none)
word_shows {new = new} word places (HoldsValue.object at number place) =
    let refers : RefersToPlace new word.0 number = record { at = at; refers = refl; place = places number at place } in
    (ShowsField.tagged (value.Ref number) (ShowsValue.object number refers), object_names_none refers)

-- an integer's raw word shows it
raw_word_shows : {heap : Heap} (own : Bool) (v : ℤ) → own ≡ true → FitsSigned w64 v
    → ShowsField heap own (raw_word v) rep.Wide (value.Int v)
raw_word_shows true v is fits = ShowsField.wide v (refl, fits)
raw_word_shows false v is fits = absurd (false≢true is)

-- a raw word shows its value, in the object itself and as a wide field
pub raw_shows : {old new : Heap} {own : Bool} {was one : Rep} {what : Value} (word count : ℕ) → IsValue count what
    → HoldsValue old own was one what (content.Raw word)
    → ShowsField new own word one what × ((own ≡ true) × (one ≡ rep.Wide))
raw_shows {own = own} word count fits (HoldsValue.raw v is apart) = (raw_word_shows own v is fits, (is, refl))

-- a reference to a box of an integer shows it as a wide field of the property store
wide_box_shows : {heap : Heap} (own : Bool) (word : ℕ) (v : ℤ) → own ≡ false → RefersToBox heap word v
    → ShowsField heap own word rep.Wide (value.Int v)
wide_box_shows true word v beside box = absurd (false≢true (sym beside))
wide_box_shows false word v beside box = ShowsField.wide v box

-- What a slot that comes to refer to a box shows, where the box holds the integer. It was and is no raw slot.
pub record ShowsByBox (heap : Heap) (own : Bool) (was one : Rep) (what : Value) (v : ℤ) : Type 0 where
  pub shows : (word : ℕ) → RefersToBox heap word v → ShowsField heap own word one what
  pub was_not_raw : own ≡ true → was ≡ rep.Wide → ⊥

-- no field is both
tagged_is_not_wide : rep.Tagged ≡ rep.Wide → ⊥
tagged_is_not_wide same = cc

-- so it shows it
pub box_shows : {old new : Heap} {own : Bool} {was one : Rep} {what : Value} (v : ℤ)
    → HoldsValue old own was one what (content.Boxed v) → ShowsByBox new own was one what v
box_shows {own = own} v (HoldsValue.wide_box of beside apart small_stays) = record {
  shows = λ word box. wide_box_shows own word v beside box;
  was_not_raw = λ is wide. false≢true (sym beside ∙ is);
}
box_shows v (HoldsValue.tagged_box of wide tagged) = record {
  shows = λ word box. ShowsField.tagged (value.Int v) (ShowsValue.boxed v wide box);
  was_not_raw = λ is was_wide. tagged_is_not_wide (sym tagged ∙ was_wide);
}
