-- What the slots of an object hold: the slot of its store or table that or `undefined`, and any other a slot word.
use Rattle.std.proofs.Common.{◌≡◌, ℕ, ◌<◌, ◌⊎◌, Bool, true, false, List, Some, All, slice_get, IsTrue}
use Rattle.std.proofs.Common.{refl, sym, ◌∙◌, ap, subst, inl, inr, ◌==◌}
use Rattle.std.proofs.lemmas.Bool.{false≢true}
use Rattle.std.proofs.lemmas.Option.{same_Some, slice_get_within, get_or_from_slice_get}
use Rattle.heap_model.specs.Types.{Kind, Path, PathField, Rep, Cell}
use Rattle.tagged_word.specs.declared.layout.Kind.TheVariants as kind
use Rattle.tagged_word.specs.Layouts.{is_raw}
use Rattle.tagged_word.specs.Cells.{store_slot, proto_slot, is_object_kind}
use Rattle.object_graph.specs.declared.value.Rep.TheVariants as rep
use Rattle.shape_tree.specs.ShapeLayouts.{layout_of, raw_bit}
use Rattle.heap_model.specs.Heaps.{Heap, HasCell}
use Rattle.heap_model.specs.Slots.{undefined_word, RefersTo, RefersToObject, IsSlotWord, IsValueWord, IsWideWord}
use Rattle.heap_model.specs.Slots.{IsFieldWord, HoldsStore}
use Rattle.heap_model.specs.Kinds.{HasWord, Pair, HasTable, IsProtoWord, IsPlainCell, IsSoundOf}
use Rattle.heap_model.specs.Wholeness.{IsOwnedKind, Whole}
use Rattle.heap_model.proofs.WordClasses.{same_reference, undefined_refers_not}
use Rattle.heap_model.proofs.CellsApart.{one_at}
use Rattle.heap_model.proofs.PathLayouts.{in_object_raw}

-- a cell is a store or a weak table
abbrev pub IsStoreKind : Kind → Type 0
IsStoreKind k = (k ≡ kind.Store) ⊎ (k ≡ kind.Table)

-- these belong to an object
pub store_is_owned : {k : Kind} → IsStoreKind k → IsOwnedKind k
store_is_owned (inl is) = subst IsOwnedKind (sym is) tt
store_is_owned (inr is) = subst IsOwnedKind (sym is) tt

-- what the slot of a store or table holds: `undefined`, or a reference to that
pub data IsStoreWord (heap : Heap) (word : ℕ) : Type 0 where
  none : word ≡ undefined_word → IsStoreWord heap word
  store : (cell : Cell) (words : List ℕ) → RefersTo heap word cell words → IsStoreKind cell.layout.kind
      → IsStoreWord heap word

-- the word refers to a cell that this one is
pub same_target : {heap : Heap} {word : ℕ} {cell other : Cell} {words others : List ℕ} → RefersTo heap word cell words
    → RefersTo heap word other others → cell ≡ other
same_target {cell = cell} {other} refers refers_other =
    one_at refers.has refers_other.has (same_reference cell.at other.at (sym refers.refers ∙ refers_other.refers))

-- the cell to which the slot of a store refers is a store or a table
pub store_target : {heap : Heap} {word : ℕ} {other : Cell} {others : List ℕ} → IsStoreWord heap word
    → RefersTo heap word other others → IsStoreKind other.layout.kind
store_target {other = other} (IsStoreWord.none is) refers =
    absurd (undefined_refers_not other.at (sym is ∙ refers.refers))
store_target (IsStoreWord.store cell words target is) refers =
    subst (λ (one : Cell). IsStoreKind one.layout.kind) (same_target target refers) is

-- a property store or the elements of a list
beside_word : {heap : Heap} (word : ℕ) (slots : List ℕ) → HoldsStore heap kind.Store word slots → IsStoreWord heap word
beside_word word slots HoldsStore.none = IsStoreWord.none refl
beside_word word slots (HoldsStore.store to cell words refers of_kind) =
    IsStoreWord.store cell words refers (inl of_kind)

-- a weak table
table_word : {heap : Heap} (word : ℕ) (pairs : List Pair) → HasTable heap word pairs → IsStoreWord heap word
table_word word pairs HasTable.none = IsStoreWord.none refl
table_word word pairs (HasTable.table to cell words refers of_kind power) =
    IsStoreWord.store cell words refers (inr of_kind)

-- the slot of an object's store holds that, kind by kind
pub store_word_of : (heap : Heap) (cell : Cell) (words : List ℕ) (k : Kind) (word : ℕ) → IsTrue (is_object_kind k)
    → IsSoundOf k heap cell words → HasWord words store_slot word → IsStoreWord heap word
store_word_of heap cell words kind.Plain word object sound slot =
    subst (IsStoreWord heap) (same_Some _ _ (sym sound.has.slot ∙ slot))
    (beside_word sound.has.store sound.has.beside sound.has.stands)
store_word_of heap cell words kind.List word object sound slot =
    subst (IsStoreWord heap) (same_Some _ _ (sym sound.slot ∙ slot)) (beside_word sound.store sound.beside sound.stands)
store_word_of heap cell words kind.Weak word object sound slot =
    subst (IsStoreWord heap) (same_Some _ _ (sym sound.slot ∙ slot)) (table_word sound.store sound.pairs sound.table)
store_word_of heap cell words _ word object sound slot = absurd (false≢true object)

-- the slot of an object's store holds that
pub store_word : {heap : Heap} {cell : Cell} {words : List ℕ} (word : ℕ) → Whole heap → HasCell heap cell words
    → IsTrue (is_object_kind cell.layout.kind) → HasWord words store_slot word → IsStoreWord heap word
store_word {heap} {cell} {words} word whole has object slot =
    store_word_of heap cell words cell.layout.kind word object (whole.sound cell words has) slot

-- what refers to the cell of a plain object refers to an object
pub plain_is_object : {heap : Heap} {word : ℕ} {cell : Cell} {words : List ℕ} → RefersTo heap word cell words
    → cell.layout.kind ≡ kind.Plain → RefersToObject heap word
plain_is_object {cell = cell} {words} refers is = (
  cell.header.object,
  record {
    at = cell.at;
    refers = refers.refers;
    place = record {
      cell = cell;
      words = words;
      has = refers.has;
      stands = refl;
      object = ap is_object_kind is;
      carries = refl;
    };
  },
)

-- the word of a prototype slot is a slot word
pub proto_is_slot : {heap : Heap} (word : ℕ) → IsProtoWord heap word → IsSlotWord heap word
proto_is_slot word IsProtoWord.none = IsSlotWord.undefined
proto_is_slot word (IsProtoWord.plain to cell words refers is) = IsSlotWord.object word (plain_is_object refers is)

-- a plain object's cell belongs to no other
plain_is_not_owned : (k : Kind) → k ≡ kind.Plain → IsOwnedKind k → ⊥
plain_is_not_owned k plain owned = subst IsOwnedKind plain owned

-- what a prototype slot refers to is no store, table or box
pub proto_names_nothing : {heap : Heap} {cell : Cell} {words : List ℕ} (word : ℕ) → IsProtoWord heap word
    → RefersTo heap word cell words → IsOwnedKind cell.layout.kind → ⊥
proto_names_nothing {cell = cell} word IsProtoWord.none refers owned =
    undefined_refers_not cell.at refers.refers
proto_names_nothing {cell = cell} word (IsProtoWord.plain to other others target is) refers owned =
    let same = same_target target refers in
    plain_is_not_owned cell.layout.kind (ap (λ (one : Cell). one.layout.kind) (sym same) ∙ is) owned

-- the word in the prototype slot of a plain object is such a word
pub proto_word : {heap : Heap} {cell : Cell} {words : List ℕ} (word : ℕ) → IsPlainCell heap cell words
    → HasWord words proto_slot word → IsProtoWord heap word
proto_word {heap} word sound slot =
    subst (IsProtoWord heap) (same_Some sound.proto word (sym sound.proto_has ∙ slot)) sound.proto_is

-- the word of a value is a slot word
pub value_is_slot : {heap : Heap} (word : ℕ) → IsValueWord heap word → IsSlotWord heap word
value_is_slot word (IsValueWord.small_integer v is) = IsSlotWord.small_integer v is
value_is_slot word IsValueWord.undefined = IsSlotWord.undefined
value_is_slot word (IsValueWord.object to refers) = IsSlotWord.object word refers
value_is_slot word (IsValueWord.boxed to v refers wide) = IsSlotWord.boxed word v refers

-- the word of a wide field is a slot word where it is not raw
wide_is_slot : {heap : Heap} (own : Bool) (word : ℕ) → IsWideWord heap own word → (own ≡ true → ⊥)
    → IsSlotWord heap word
wide_is_slot own word (IsWideWord.raw to) tagged = absurd (tagged refl)
wide_is_slot own word (IsWideWord.boxed to v refers) tagged = IsSlotWord.boxed word v refers

-- the word of a field is a slot word where it is not raw
pub field_is_slot : {heap : Heap} {own : Bool} (one : Rep) (word : ℕ) → IsFieldWord heap own one word
    → (own ≡ true → one ≡ rep.Wide → ⊥) → IsSlotWord heap word
field_is_slot one word (IsFieldWord.small_integer v is) tagged = IsSlotWord.small_integer v is
field_is_slot {own = own} one word (IsFieldWord.wide to is) tagged = wide_is_slot own word is (λ raw. tagged raw refl)
field_is_slot one word (IsFieldWord.tagged to is) tagged = value_is_slot word is

-- what holds of all holds of the one at a place
pub All-slice_get : {A : Type 0} (P : A → Type 0) (xs : List A) (k : ℕ) (x : A) → All P xs → slice_get xs k ≡ Some x
    → P x
All-slice_get P xs k x all there =
    subst P (get_or_from_slice_get xs k x x there) (all k x (slice_get_within xs k x there))

-- a wide field that stands in an in-object slot is raw
pub in_object_not_wide : (path : Path) (at : ℕ) (field : PathField) → slice_get path.fields at ≡ Some field
    → at < path.cap
    → is_raw (layout_of path) at ≡ false → field.rep ≡ rep.Wide → ⊥
in_object_not_wide path at field there below tagged wide =
    false≢true (sym tagged ∙ in_object_raw path at field there below ∙ ap (λ one. raw_bit one == 1) wide)
