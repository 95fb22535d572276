-- What a reference refers to that shows a value: the object that the value refers to, or a box.
use Rattle.std.proofs.Common.{◌≡◌, ℕ, Bool, true, false, List, IsTrue, refl, sym, ◌∙◌, ap, subst, ℤ}
use Rattle.tagged_word.specs.declared.layout.Kind.TheVariants as kind
use Rattle.heap_model.specs.Types.{Value, Rep, Cell}
use Rattle.object_graph.specs.declared.value.Value.TheVariants.{Ref}
use Rattle.object_graph.specs.declared.value.Rep.TheVariants as rep
use Rattle.heap_model.specs.Heaps.{Heap, HasCell}
use Rattle.tagged_word.specs.Cells.{is_object_kind}
use Rattle.heap_model.specs.Slots.{reference_word, IsPlace, RefersToBox}
use Rattle.heap_model.specs.Wholeness.{IsOwnedKind}
use Rattle.heap_model.specs.Showing.{ShowsValue, ShowsWide, ShowsField}
use Rattle.heap_model.proofs.CellsApart.{one_at}
use Rattle.heap_model.proofs.OneOwner.{object_is_not_owned}
use Rattle.heap_model.proofs.WordClasses.{same_reference, undefined_refers_not, small_refers_not}

-- an address is the place of one object
pub one_number : {heap : Heap} {number other at : ℕ} → IsPlace heap number at → IsPlace heap other at → number ≡ other
one_number place another =
    let same : place.cell ≡ another.cell = one_at place.has another.has (place.stands ∙ sym another.stands) in
    sym place.carries ∙ ap (λ (cell : Cell). cell.header.object) same ∙ another.carries

-- and no cell stands there that belongs to an object
pub place_not_owned : {heap : Heap} {number at : ℕ} {cell : Cell} {words : List ℕ} → IsPlace heap number at
    → HasCell heap cell words → cell.at ≡ at → IsOwnedKind cell.layout.kind → ⊥
place_not_owned {cell = cell} place has stands owned =
    let same : place.cell ≡ cell = one_at place.has has (place.stands ∙ sym stands) in
    object_is_not_owned cell.layout.kind
    (subst (λ (one : Cell). IsTrue (is_object_kind one.layout.kind)) same place.object) owned

-- a box stands at the address
pub record IsBoxAt (heap : Heap) (at : ℕ) : Type 0 where
  pub cell : Cell
  pub words : List ℕ
  pub has : HasCell heap cell words
  pub stands : cell.at ≡ at
  pub box : cell.layout.kind ≡ kind.Boxed

-- What stands at an address to which a word refers that shows the value: the object that it refers to, or a box.
pub data ShownTarget (heap : Heap) (value : Value) (at : ℕ) : Type 0 where
  to_object : (number : ℕ) → value ≡ Ref number → IsPlace heap number at → ShownTarget heap value at
  to_box : IsBoxAt heap at → ShownTarget heap value at

-- a word that refers to a box refers to one at its address
box_target : {heap : Heap} {word : ℕ} {v : ℤ} (at : ℕ) → RefersToBox heap word v → word ≡ reference_word at
    → IsBoxAt heap at
box_target at refers_to same = record {
  cell = refers_to.cell;
  words = refers_to.words;
  has = refers_to.target.has;
  stands = same_reference refers_to.cell.at at (sym refers_to.target.refers ∙ same);
  box = refers_to.box;
}

-- a word of a tagged slot that is a reference
pub value_target : {heap : Heap} {word : ℕ} {value : Value} (at : ℕ) → ShowsValue heap word value
    → word ≡ reference_word at → ShownTarget heap value at
value_target at (ShowsValue.small_integer v is same) refers = absurd (small_refers_not v at (sym same ∙ refers))
value_target at (ShowsValue.boxed v wide in_box) refers = ShownTarget.to_box (box_target at in_box refers)
value_target at (ShowsValue.undefined same) refers = absurd (undefined_refers_not at (sym same ∙ refers))
value_target {heap} at (ShowsValue.object number there) refers =
    let same = same_reference there.at at (sym there.refers ∙ refers) in
    ShownTarget.to_object number refl (subst (IsPlace heap number) same there.place)

-- the word of a wide field that is a reference, by where it stands: a raw one tells nothing
wide_target : {heap : Heap} {word : ℕ} (own : Bool) (v : ℤ) (value : Value) (at : ℕ) → ShowsWide heap own word v
    → (own ≡ true → ⊥) → word ≡ reference_word at → ShownTarget heap value at
wide_target true v value at shows tagged refers = absurd (tagged refl)
wide_target false v value at shows tagged refers = ShownTarget.to_box (box_target at shows refers)

-- the word of a field that is a reference, and not raw
pub field_target : {heap : Heap} {own : Bool} {word : ℕ} {one : Rep} {value : Value} (at : ℕ)
    → ShowsField heap own word one value → (own ≡ true → one ≡ rep.Wide → ⊥) → word ≡ reference_word at
    → ShownTarget heap value at
field_target at (ShowsField.small_integer v is same) tagged refers =
    absurd (small_refers_not v at (sym same ∙ refers))
field_target {own = own} {value = value} at (ShowsField.wide v shows) tagged refers =
    wide_target own v value at shows (λ is_own. tagged is_own refl) refers
field_target at (ShowsField.tagged value shows) tagged refers = value_target at shows refers
