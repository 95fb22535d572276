-- Words that refer to objects and boxes, in two heaps: where places stay and the box stays, what a word is and shows
-- stays.
use Rattle.std.proofs.Common.{◌≡◌, ℕ, Bool, true, false, ℤ}
use Rattle.std.proofs.lemmas.Bool.{false≢true}
use Rattle.heap_model.specs.Types.{Value, Rep}
use Rattle.object_graph.specs.declared.value.Rep.TheVariants as rep
use Rattle.heap_model.specs.Heaps.{Heap}
use Rattle.heap_model.specs.Slots.{IsPlace, RefersToPlace, RefersToObject, RefersToBox, IsSlotWord, IsValueWord}
use Rattle.heap_model.specs.Slots.{IsWideWord, IsFieldWord}
use Rattle.heap_model.specs.Showing.{ShowsValue, ShowsWide, ShowsField}

-- each place of an object is one in the new heap
abbrev pub PlacesStay : Heap → Heap → Type 0
PlacesStay old new = (number at : ℕ) → IsPlace old number at → IsPlace new number at

-- the box to which the word refers stands in the new heap, and holds the same integer
abbrev pub BoxStays : Heap → Heap → ℕ → Type 0
BoxStays old new word = (v : ℤ) → RefersToBox old word v → RefersToBox new word v

-- what refers to the place of an object still does
pub refers_to_place_stays : {old new : Heap} {word number : ℕ} → PlacesStay old new → RefersToPlace old word number
    → RefersToPlace new word number
refers_to_place_stays {number = number} places refers =
    record { at = refers.at; refers = refers.refers; place = places number refers.at refers.place }

-- what refers to an object still does
pub refers_to_object_stays : {old new : Heap} (word : ℕ) → PlacesStay old new → RefersToObject old word
    → RefersToObject new word
refers_to_object_stays word places refers = (refers.0, refers_to_place_stays places refers.1)

-- the word of a value is one
pub value_stays : {old new : Heap} (word : ℕ) → PlacesStay old new → BoxStays old new word → IsValueWord old word
    → IsValueWord new word
value_stays word places box (IsValueWord.small_integer v is) = IsValueWord.small_integer v is
value_stays word places box IsValueWord.undefined = IsValueWord.undefined
value_stays word places box (IsValueWord.object to refers) =
    IsValueWord.object word (refers_to_object_stays word places refers)
value_stays word places box (IsValueWord.boxed to v refers wide) = IsValueWord.boxed word v (box v refers) wide

-- a slot word is one, where its box is one, of whatever integer
pub slot_word_stays : {old new : Heap} (word : ℕ) → PlacesStay old new
    → ((v : ℤ) → RefersToBox old word v → (w : ℤ) × RefersToBox new word w) → IsSlotWord old word
    → IsSlotWord new word
slot_word_stays word places box (IsSlotWord.small_integer v is) = IsSlotWord.small_integer v is
slot_word_stays word places box IsSlotWord.undefined = IsSlotWord.undefined
slot_word_stays word places box IsSlotWord.hole = IsSlotWord.hole
slot_word_stays word places box (IsSlotWord.object to refers) =
    IsSlotWord.object word (refers_to_object_stays word places refers)
slot_word_stays word places box (IsSlotWord.boxed to v refers) =
    let still = box v refers in
    IsSlotWord.boxed word still.0 still.1

-- the word of a wide field is one; a raw one has no box
wide_stays : {old new : Heap} (own : Bool) (word : ℕ) → ((own ≡ true → ⊥) → BoxStays old new word)
    → IsWideWord old own word → IsWideWord new own word
wide_stays own word box (IsWideWord.raw to) = IsWideWord.raw word
wide_stays own word box (IsWideWord.boxed to v refers) = IsWideWord.boxed word v (box false≢true v refers)

-- no tagged field is a wide one
tagged_is_not_wide : rep.Tagged ≡ rep.Wide → ⊥
tagged_is_not_wide same = cc

-- the word of a field is one
pub field_stays : {old new : Heap} {own : Bool} (one : Rep) (word : ℕ) → PlacesStay old new
    → ((own ≡ true → one ≡ rep.Wide → ⊥) → BoxStays old new word) → IsFieldWord old own one word
    → IsFieldWord new own one word
field_stays one word places box (IsFieldWord.small_integer v is) = IsFieldWord.small_integer v is
field_stays {own = own} one word places box (IsFieldWord.wide to is) =
    IsFieldWord.wide word (wide_stays own word (λ apart. box (λ raw wide. apart raw)) is)
field_stays one word places box (IsFieldWord.tagged to is) =
    IsFieldWord.tagged word (value_stays word places (box (λ raw wide. tagged_is_not_wide wide)) is)

-- a value is shown
pub shown_value : {old new : Heap} {value : Value} (word : ℕ) → PlacesStay old new → BoxStays old new word
    → ShowsValue old word value → ShowsValue new word value
shown_value word places box (ShowsValue.small_integer v is same) = ShowsValue.small_integer v is same
shown_value word places box (ShowsValue.boxed v wide refers) = ShowsValue.boxed v wide (box v refers)
shown_value word places box (ShowsValue.undefined same) = ShowsValue.undefined same
shown_value word places box (ShowsValue.object number refers) =
    ShowsValue.object number (refers_to_place_stays places refers)

-- a wide field is shown
shown_wide : {old new : Heap} (own : Bool) (word : ℕ) (v : ℤ) → ((own ≡ true → ⊥) → BoxStays old new word)
    → ShowsWide old own word v → ShowsWide new own word v
shown_wide true word v box same = same
shown_wide false word v box refers = box false≢true v refers

-- a field is shown
pub shown_field : {old new : Heap} (own : Bool) (word : ℕ) (one : Rep) (value : Value) → PlacesStay old new
    → ((own ≡ true → one ≡ rep.Wide → ⊥) → BoxStays old new word) → ShowsField old own word one value
    → ShowsField new own word one value
shown_field own word one value places box (ShowsField.small_integer v is same) = ShowsField.small_integer v is same
shown_field own word one value places box (ShowsField.wide v is) =
    ShowsField.wide v (shown_wide own word v (λ apart. box (λ raw wide. apart raw)) is)
shown_field own word one value places box (ShowsField.tagged to is) =
    ShowsField.tagged to (shown_value word places (box (λ raw wide. tagged_is_not_wide wide)) is)
