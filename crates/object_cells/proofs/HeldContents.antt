-- What a slot comes to hold for a value that is held: which word it is, and how many words it takes.
use Rattle.std.proofs.Common.{◌≡◌, ℕ, Bool, true, false, IsTrue, Some, refl, sym, ◌∙◌, ap, subst}
use Rattle.std.specs.Prelude.{ℤ, if◌then◌else◌}
use Rattle.std.proofs.lemmas.Bool.{false≢true}
use Rattle.tagged_word.specs.Words.{small}
use Rattle.heap_model.specs.Types.{Value, Rep, Held}
use Rattle.object_graph.specs.declared.value.Value.TheVariants as value
use Rattle.object_graph.specs.declared.value.Rep.TheVariants as rep
use Rattle.object_graph.specs.Values.{rep_of, join}
use Rattle.handle_roots.specs.declared.held.Held.TheVariants as held
use Rattle.heap_model.specs.Heaps.{Heap}
use Rattle.heap_model.specs.Slots.{small_word, undefined_word, reference_word, raw_word, IsPlace, IsFieldWord}
use Rattle.heap_model.specs.Showing.{ShowsHeld}
use Rattle.heap_model.proofs.SlotWords.{field_is_slot}
use Rattle.object_cells.specs.declared.content.SlotContent.{SlotContent}
use Rattle.object_cells.specs.declared.content.SlotContent.TheVariants as content
use Rattle.object_cells.specs.Contents.{held_rep, content_of, integer_content, small_content}
use Rattle.object_cells.specs.Contents.{HoldsSlotWord}

-- What a slot of a representation that was `was` and is now `one`, in the object itself or in its store,
-- comes to hold for a value: a small integer's word, a raw one, a box, `undefined`, or a reference.
pub data HoldsValue (heap : Heap) (own : Bool) (was : Rep) : Rep → Value → SlotContent → Type 0 where
  small_integer : (one : Rep) (v : ℤ) → IsTrue (small v) → (one ≡ rep.Wide → ⊥)
      → HoldsValue heap own was one (value.Int v) (content.Tagged (record { 0 = small_word v }))
  raw : (v : ℤ) → own ≡ true → (was ≡ rep.Tagged → ⊥)
      → HoldsValue heap own was rep.Wide (value.Int v) (content.Raw (raw_word v))
  wide_box : (v : ℤ) → own ≡ false → (was ≡ rep.Tagged → ⊥) → (small v ≡ true → was ≡ rep.Wide)
      → HoldsValue heap own was rep.Wide (value.Int v) (content.Boxed v)
  tagged_box : (v : ℤ) → small v ≡ false → was ≡ rep.Tagged
      → HoldsValue heap own was rep.Tagged (value.Int v) (content.Boxed v)
  undefined : HoldsValue heap own was rep.Tagged value.Undefined (content.Tagged (record { 0 = undefined_word }))
  object : (at number : ℕ) → IsPlace heap number at
      → HoldsValue heap own was rep.Tagged (value.Ref number) (content.Tagged (record { 0 = reference_word at }))

-- a value is held with its own representation
pub held_rep_is : {heap : Heap} (known : Held) (what : Value) → ShowsHeld heap known (Some what)
    → held_rep known ≡ rep_of what
held_rep_is known what ShowsHeld.undefined = refl
held_rep_is known what (ShowsHeld.integer v) = refl
held_rep_is known what (ShowsHeld.object at number place) = refl

-- the representation of an integer, by whether it is small
abbrev integer_rep : Bool → Rep
integer_rep is_small = if is_small then rep.Small else rep.Wide

-- a field that is wide once an integer joined it was not tagged
was_not_tagged : (was : Rep) (is_small : Bool) → join was (integer_rep is_small) ≡ rep.Wide → was ≡ rep.Tagged → ⊥
was_not_tagged rep.Small is_small joins same = cc
was_not_tagged rep.Wide is_small joins same = cc
was_not_tagged rep.Tagged true joins same = cc
was_not_tagged rep.Tagged false joins same = cc

-- one that is wide once a small integer joined it was wide
was_wide : (was : Rep) → join was rep.Small ≡ rep.Wide → was ≡ rep.Wide
was_wide rep.Small joins = cc
was_wide rep.Wide joins = refl
was_wide rep.Tagged joins = cc

-- one that is small once an integer joined it was joined by a small one
joins_small : (was : Rep) (is_small : Bool) → join was (integer_rep is_small) ≡ rep.Small → is_small ≡ true
joins_small was true joins = refl
joins_small rep.Small false joins = cc
joins_small rep.Wide false joins = cc
joins_small rep.Tagged false joins = cc

-- one that is tagged once an integer joined it that is not small was tagged
was_tagged : (was : Rep) → join was rep.Wide ≡ rep.Tagged → was ≡ rep.Tagged
was_tagged rep.Small joins = cc
was_tagged rep.Wide joins = cc
was_tagged rep.Tagged joins = refl

-- any is tagged once another value joined it
joins_tagged : (was : Rep) → join was rep.Tagged ≡ rep.Tagged
joins_tagged rep.Small = refl
joins_tagged rep.Wide = refl
joins_tagged rep.Tagged = refl

-- what a slot that is not wide holds for an integer, by whether it is small
small_held : {heap : Heap} (own : Bool) (was one : Rep) (v : ℤ) (is_small : Bool) → small v ≡ is_small
    → join was (integer_rep is_small) ≡ one → (one ≡ rep.Wide → ⊥)
    → HoldsValue heap own was one (value.Int v) (small_content v is_small)
small_held own was one v true is joins apart = HoldsValue.small_integer one v is apart
small_held own was rep.Small v false is joins apart = absurd (false≢true (joins_small was false joins))
small_held own was rep.Wide v false is joins apart = absurd (apart refl)
small_held own was rep.Tagged v false is joins apart = HoldsValue.tagged_box v is (was_tagged was joins)

-- what a slot holds for an integer, by its representation
integer_held : {heap : Heap} (own : Bool) (was one : Rep) (v : ℤ) → join was (integer_rep (small v)) ≡ one
    → HoldsValue heap own was one (value.Int v) (integer_content own one v)
integer_held true was rep.Wide v joins = HoldsValue.raw v refl (was_not_tagged was (small v) joins)
integer_held false was rep.Wide v joins =
    HoldsValue.wide_box v refl (was_not_tagged was (small v) joins)
    (λ is. was_wide was (ap (λ b. join was (integer_rep b)) (sym is) ∙ joins))
integer_held true was rep.Small v joins = small_held true was rep.Small v (small v) refl joins (λ same. cc)
integer_held false was rep.Small v joins = small_held false was rep.Small v (small v) refl joins (λ same. cc)
integer_held true was rep.Tagged v joins = small_held true was rep.Tagged v (small v) refl joins (λ same. cc)
integer_held false was rep.Tagged v joins = small_held false was rep.Tagged v (small v) refl joins (λ same. cc)

-- what a slot comes to hold for a value
pub value_held : {heap : Heap} (own : Bool) (was one : Rep) (known : Held) (what : Value)
    → ShowsHeld heap known (Some what)
    → join was (rep_of what) ≡ one → HoldsValue heap own was one what (content_of own one known)
value_held {heap} own was one known what ShowsHeld.undefined joins =
    subst (λ r. HoldsValue heap own was r value.Undefined (content_of own r held.Undefined))
    (sym (joins_tagged was) ∙ joins)
    HoldsValue.undefined
value_held own was one known what (ShowsHeld.integer v) joins = integer_held own was one v joins
value_held {heap} own was one known what (ShowsHeld.object at number place) joins =
    subst (λ r. HoldsValue heap own was r (value.Ref number) (content_of own r (held.Ref at)))
    (sym (joins_tagged was) ∙ joins)
    (HoldsValue.object at number place)

-- a slot that comes to refer to a box held a slot word before
pub held_slot_word : {heap : Heap} {own : Bool} {was one : Rep} {what : Value} {content : SlotContent} (word : ℕ)
    → HoldsValue heap own was one what content → IsFieldWord heap own was word → HoldsSlotWord heap word content
held_slot_word word (HoldsValue.small_integer one v is apart) field = tt
held_slot_word word (HoldsValue.raw v own apart) field = tt
held_slot_word {was = was} word (HoldsValue.wide_box v beside apart small) field =
    field_is_slot was word field (λ own. absurd (false≢true (sym beside ∙ own)))
held_slot_word {was = was} word (HoldsValue.tagged_box v wide tagged) field =
    field_is_slot was word field (λ own is_wide.
    let same : rep.Tagged ≡ rep.Wide = sym tagged ∙ is_wide in
    cc)
held_slot_word word HoldsValue.undefined field = tt
held_slot_word word (HoldsValue.object at number place) field = tt
