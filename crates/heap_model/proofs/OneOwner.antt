-- What an object names belongs to it alone.
use Rattle.std.proofs.Common.{◌≡◌, ℕ, ◌+◌, List, IsTrue, refl, sym, ap, subst, arith}
use Rattle.std.proofs.lemmas.Bool.{false≢true}
use Rattle.heap_model.specs.Types.{Kind, Cell}
use Rattle.tagged_word.specs.declared.layout.Kind.TheVariants as kind
use Rattle.tagged_word.specs.Cells.{store_slot, is_object_kind}
use Rattle.heap_model.specs.Heaps.{Heap, HasCell}
use Rattle.heap_model.specs.Slots.{RefersTo}
use Rattle.heap_model.specs.Kinds.{HasWord}
use Rattle.heap_model.specs.Wholeness.{IsOwnedKind, NamesFrom, Whole}
use Rattle.heap_model.proofs.CellsApart.{one_at, cells_apart}
use Rattle.heap_model.proofs.ObjectSlots.{store_slot_at}
use Rattle.heap_model.proofs.SlotWords.{IsStoreKind, store_is_owned}
use Rattle.heap_model.proofs.SlotsHold.{SlotIn, slot_in}

-- an object belongs to no other
pub object_is_not_owned : (k : Kind) → IsTrue (is_object_kind k) → IsOwnedKind k → ⊥
object_is_not_owned kind.Plain object owned = owned
object_is_not_owned kind.List object owned = owned
object_is_not_owned kind.Weak object owned = owned
object_is_not_owned _ object owned = false≢true object

-- an object names its store or table
pub names_store : {heap : Heap} {owner other : Cell} {words others : List ℕ} (store : ℕ) → HasCell heap owner words
    → IsTrue (is_object_kind owner.layout.kind) → HasWord words store_slot store → RefersTo heap store other others
    → IsStoreKind other.layout.kind → NamesFrom heap owner (owner.at + store_slot) other.at
names_store {heap} {owner} {other} {words} {others} store has object slot refers is = record {
  words = words;
  has = has;
  object = object;
  word = store;
  of_owner = store_slot_at store object slot;
  cell = other;
  others = others;
  refers = refers;
  owned = store_is_owned is;
  at = refl;
}

-- an object's cell is no store's
apart_from_store : {cell other : Cell} → cell ≡ other → IsTrue (is_object_kind cell.layout.kind)
    → IsStoreKind other.layout.kind → ⊥
apart_from_store {cell = cell} {other} same object is =
    let P : Cell → Type 0 = λ one. IsTrue (is_object_kind one.layout.kind) in
    object_is_not_owned other.layout.kind (subst P same object) (store_is_owned is)

-- two objects that have a slot at one address are one
same_slot : {heap : Heap} {owner another : Cell} {words others : List ℕ} (slot : ℕ) → Whole heap
    → HasCell heap owner words → IsTrue (is_object_kind owner.layout.kind)
    → HasCell heap another others → IsTrue (is_object_kind another.layout.kind)
    → SlotIn heap owner words slot → SlotIn heap another others slot → owner ≡ another
same_slot slot whole has object has_other object_other (SlotIn.in_own of_cell) (SlotIn.in_own of_other) =
    cells_apart slot whole.rows has has_other of_cell of_other
same_slot slot whole has object has_other object_other (SlotIn.in_own of_cell)
    (SlotIn.in_store store other others at_store refers is of_other) =
    absurd (apart_from_store (cells_apart slot whole.rows has refers.has of_cell of_other) object is)
same_slot slot whole has object has_other object_other (SlotIn.in_store store other others at_store refers is of_cell)
    (SlotIn.in_own of_other) =
    absurd (apart_from_store (cells_apart slot whole.rows has_other refers.has of_other of_cell) object_other is)
same_slot {heap} {owner} {another} slot whole has object has_other object_other
    (SlotIn.in_store store other others at_store refers is of_cell)
    (SlotIn.in_store store' other' others' at_store' refers' is' of_other) =
    let same : other ≡ other' = cells_apart slot whole.rows refers.has refers'.has of_cell of_other in
    let names = names_store store has object at_store refers is in
    let names' = names_store store' has_other object_other at_store' refers' is' in
    let at : other'.at ≡ other.at = sym (ap (λ (one : Cell). one.at) same) in
    let slots : owner.at + store_slot ≡ another.at + store_slot =
    whole.owned owner another (owner.at + store_slot) (another.at + store_slot) other.at names
    (subst (NamesFrom heap another (another.at + store_slot)) at names') in
    one_at has has_other (omega (arith, slots))

-- two objects that name one cell are one
pub one_owner : {heap : Heap} {owner another : Cell} {slot other named : ℕ} → Whole heap
    → NamesFrom heap owner slot named → NamesFrom heap another other named → owner ≡ another
one_owner {heap} {owner} {another} {slot} {other} {named} whole names names_too =
    let same : slot ≡ other = whole.owned owner another slot other named names names_too in
    let place = slot_in whole names.has names.object names.of_owner in
    let place_too = slot_in whole names_too.has names_too.object names_too.of_owner in
    same_slot slot whole names.has names.object names_too.has names_too.object place
    (subst (SlotIn heap another names_too.words) (sym same) place_too)
