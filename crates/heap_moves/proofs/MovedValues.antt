-- Words of slots that are moved: what they stood for they stand for.
use Rattle.std.proofs.Common.{◌≡◌, ℕ, Bool, true, false, Option, refl, sym, ◌∙◌, subst, ℤ}
use Rattle.std.proofs.lemmas.Bool.{false≢true}
use Rattle.heap_model.specs.Types.{Value, Rep}
use Rattle.object_graph.specs.declared.value.Rep.TheVariants as rep
use Rattle.heap_model.specs.Heaps.{Heap}
use Rattle.heap_model.specs.Slots.{undefined_word, hole_word, small_word, RefersToObject}
use Rattle.heap_model.specs.Slots.{IsSlotWord, IsValueWord, IsWideWord, IsFieldWord}
use Rattle.heap_model.specs.Kinds.{IsProtoWord}
use Rattle.heap_model.specs.Showing.{ShowsValue, ShowsWide, ShowsField}
use Rattle.heap_model.proofs.WordClasses.{undefined_refers_not, hole_refers_not, small_refers_not}
use Rattle.heap_moves.specs.Moved.{IsMovedWord, moved_to, IsMoved}
use Rattle.heap_moves.proofs.MovedWords.{not_referred}
use Rattle.heap_moves.proofs.MovedCells.{refers_moved}
use Rattle.heap_moves.proofs.MovedTargets.{box_moved, target}

-- a hole is as it was
pub hole_stays : {to : ℕ → Option ℕ} {word now : ℕ} → IsMovedWord to word now → word ≡ hole_word → now ≡ hole_word
hole_stays moved_word is = not_referred moved_word (λ at same. hole_refers_not at (sym is ∙ same)) ∙ is

-- and was one
pub hole_before : {to : ℕ → Option ℕ} {word now : ℕ} → IsMovedWord to word now → now ≡ hole_word → word ≡ hole_word
hole_before (IsMovedWord.reference at there was stays is) hole = absurd (hole_refers_not there (sym hole ∙ is))
hole_before (IsMovedWord.other none is) hole = sym is ∙ hole

-- The word of a field is moved; or it is raw in the object, and is as it was.
pub data IsMovedField (to : ℕ → Option ℕ) (own : Bool) (one : Rep) (old new : ℕ) : Type 0 where
  raw : own ≡ true → one ≡ rep.Wide → new ≡ old → IsMovedField to own one old new
  moved : (own ≡ true → one ≡ rep.Wide → ⊥) → IsMovedWord to old new → IsMovedField to own one old new

-- no field of another representation is wide
small_is_not_wide : rep.Small ≡ rep.Wide → ⊥
small_is_not_wide same = cc

-- nor is a tagged one
tagged_is_not_wide : rep.Tagged ≡ rep.Wide → ⊥
tagged_is_not_wide same = cc

-- what is raw is as it was
raw_is_same : {to : ℕ → Option ℕ} {one : Rep} {old new : ℕ} → IsMovedField to true one old new → one ≡ rep.Wide
    → new ≡ old
raw_is_same (IsMovedField.raw own wide same) is_wide = same
raw_is_same (IsMovedField.moved tagged is) is_wide = absurd (tagged refl is_wide)

-- what is not raw is moved
pub field_is_moved : {to : ℕ → Option ℕ} {own : Bool} {one : Rep} {old new : ℕ} → IsMovedField to own one old new
    → (own ≡ true → one ≡ rep.Wide → ⊥) → IsMovedWord to old new
field_is_moved (IsMovedField.raw own wide same) not_raw = absurd (not_raw own wide)
field_is_moved (IsMovedField.moved tagged is) not_raw = is

module _ {old new : Heap} {to : ℕ → Option ℕ} (moved : IsMoved old new to) where
  -- what refers to an object refers to one
  object_moved : {word now : ℕ} → IsMovedWord to word now → RefersToObject old word → RefersToObject new now
  object_moved moved_word refers = (refers.0, refers_moved moved moved_word refers.1)

  -- a small integer is as it was
  small_stays : {word now : ℕ} (v : ℤ) → IsMovedWord to word now → word ≡ small_word v → now ≡ small_word v
  small_stays v moved_word is = not_referred moved_word (λ at same. small_refers_not v at (sym is ∙ same)) ∙ is

  -- `undefined` is as it was
  pub undefined_stays : {word now : ℕ} → IsMovedWord to word now → word ≡ undefined_word → now ≡ undefined_word
  undefined_stays moved_word is = not_referred moved_word (λ at same. undefined_refers_not at (sym is ∙ same)) ∙ is

  -- the word of a prototype slot is one
  pub proto_moved : {word now : ℕ} → IsMovedWord to word now → IsProtoWord old word → IsProtoWord new now
  proto_moved moved_word IsProtoWord.none =
      subst (IsProtoWord new) (sym (undefined_stays moved_word refl)) IsProtoWord.none
  proto_moved {now = now} moved_word (IsProtoWord.plain word cell words refers of_kind) =
      let there = target moved moved_word refers in
      IsProtoWord.plain now (moved_to cell there.now) there.others there.refers of_kind

  -- a slot word is one
  pub slot_word_moved : {word now : ℕ} → IsMovedWord to word now → IsSlotWord old word → IsSlotWord new now
  slot_word_moved moved_word (IsSlotWord.small_integer v is) =
      subst (IsSlotWord new) (sym (small_stays v moved_word refl)) (IsSlotWord.small_integer v is)
  slot_word_moved moved_word IsSlotWord.undefined =
      subst (IsSlotWord new) (sym (undefined_stays moved_word refl)) IsSlotWord.undefined
  slot_word_moved moved_word IsSlotWord.hole =
      subst (IsSlotWord new) (sym (hole_stays moved_word refl)) IsSlotWord.hole
  slot_word_moved {now = now} moved_word (IsSlotWord.object word refers) =
      IsSlotWord.object now (object_moved moved_word refers)
  slot_word_moved {now = now} moved_word (IsSlotWord.boxed word v box) =
      IsSlotWord.boxed now v (box_moved moved moved_word box)

  -- the word of a value is one
  pub value_moved : {word now : ℕ} → IsMovedWord to word now → IsValueWord old word → IsValueWord new now
  value_moved moved_word (IsValueWord.small_integer v is) =
      subst (IsValueWord new) (sym (small_stays v moved_word refl)) (IsValueWord.small_integer v is)
  value_moved moved_word IsValueWord.undefined =
      subst (IsValueWord new) (sym (undefined_stays moved_word refl)) IsValueWord.undefined
  value_moved {now = now} moved_word (IsValueWord.object word refers) =
      IsValueWord.object now (object_moved moved_word refers)
  value_moved {now = now} moved_word (IsValueWord.boxed word v box wide) =
      IsValueWord.boxed now v (box_moved moved moved_word box) wide

  -- the word of a wide field is one
  wide_moved : {own : Bool} {one : Rep} {word now : ℕ} → IsMovedField to own one word now → IsWideWord old own word
      → IsWideWord new own now
  wide_moved {now = now} is_moved (IsWideWord.raw word) = IsWideWord.raw now
  wide_moved {now = now} is_moved (IsWideWord.boxed word v box) =
      IsWideWord.boxed now v (box_moved moved (field_is_moved is_moved (λ own wide. false≢true own)) box)

  -- the word of a field is one
  pub field_word_moved : {own : Bool} {one : Rep} {word now : ℕ} → IsMovedField to own one word now
      → IsFieldWord old own one word → IsFieldWord new own one now
  field_word_moved {own} is_moved (IsFieldWord.small_integer v is) =
      let moved_word = field_is_moved is_moved (λ own wide. small_is_not_wide wide) in
      subst (IsFieldWord new own rep.Small) (sym (small_stays v moved_word refl)) (IsFieldWord.small_integer v is)
  field_word_moved {now = now} is_moved (IsFieldWord.wide word is) = IsFieldWord.wide now (wide_moved is_moved is)
  field_word_moved {now = now} is_moved (IsFieldWord.tagged word is) =
      IsFieldWord.tagged now (value_moved (field_is_moved is_moved (λ own wide. tagged_is_not_wide wide)) is)

  -- what shows a value shows it
  pub shown_value_moved : {word now : ℕ} {value : Value} → IsMovedWord to word now → ShowsValue old word value
      → ShowsValue new now value
  shown_value_moved moved_word (ShowsValue.small_integer v is same) =
      ShowsValue.small_integer v is (small_stays v moved_word same)
  shown_value_moved moved_word (ShowsValue.boxed v wide box) = ShowsValue.boxed v wide (box_moved moved moved_word box)
  shown_value_moved moved_word (ShowsValue.undefined same) = ShowsValue.undefined (undefined_stays moved_word same)
  shown_value_moved moved_word (ShowsValue.object number refers) =
      ShowsValue.object number (refers_moved moved moved_word refers)

  -- what shows a wide field shows it; raw in the object, its word is as it was
  shown_wide_moved : {word now : ℕ} (own : Bool) (v : ℤ) → IsMovedField to own rep.Wide word now
      → ShowsWide old own word v → ShowsWide new own now v
  shown_wide_moved true v is_moved shows = (raw_is_same is_moved refl ∙ shows.0, shows.1)
  shown_wide_moved false v is_moved box = box_moved moved (field_is_moved is_moved (λ own wide. false≢true own)) box

  -- what shows a field shows it
  pub shown_field_moved : {own : Bool} {word now : ℕ} {one : Rep} {value : Value} → IsMovedField to own one word now
      → ShowsField old own word one value → ShowsField new own now one value
  shown_field_moved is_moved (ShowsField.small_integer v is same) =
      ShowsField.small_integer v is
      (small_stays v (field_is_moved is_moved (λ own wide. small_is_not_wide wide)) same)
  shown_field_moved {own} is_moved (ShowsField.wide v shows) = ShowsField.wide v (shown_wide_moved own v is_moved shows)
  shown_field_moved is_moved (ShowsField.tagged value shows) =
      ShowsField.tagged value
      (shown_value_moved (field_is_moved is_moved (λ own wide. tagged_is_not_wide wide)) shows)
