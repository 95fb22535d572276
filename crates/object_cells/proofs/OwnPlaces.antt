-- The words of an object's own cells that are put: that of a slot, and that of the box to which a slot refers.
use Rattle.std.proofs.Common.{◌≡◌, ◌≢◌, ℕ, ◌+◌, inl, inr, List, [], ◌∷◌, Contains}
use Rattle.std.proofs.Common.{refl, sym, ◌∙◌, ap, subst, arith, IsTrue}
use Rattle.std.proofs.lemmas.Option.{same_Some}
use Rattle.heap_model.specs.Types.{Kind, Cell}
use Rattle.tagged_word.specs.declared.layout.Kind.TheVariants as kind
use Rattle.tagged_word.specs.Cells.{store_slot, is_object_kind}
use Rattle.tagged_word.proofs.Members.{one_in}
use Rattle.heap_model.specs.Heaps.{Heap, HasCell, words_of_cell}
use Rattle.heap_model.specs.Slots.{reference_word, RefersTo}
use Rattle.heap_model.specs.Kinds.{HasWord, HasSlots, HasNoNumber, IsSoundOf}
use Rattle.heap_model.specs.Wholeness.{Whole, NamesFrom, IsOwnedKind}
use Rattle.heap_model.proofs.BoundHeaps.{none_in}
use Rattle.heap_model.proofs.CellsApart.{IsOfCell, cells_apart}
use Rattle.heap_model.proofs.CellWords.{words_by_kind, words_are_size}
use Rattle.heap_model.proofs.OneOwner.{names_store}
use Rattle.object_cells.specs.OwnSlots.{IsNoBoxOf}
use Rattle.object_cells.specs.SlotChanges.{IsTaggedSlot}
use Rattle.object_cells.proofs.NumberedSlots.{IsNumbered, SlotOfNumber, slot_of_number, one_number, NotInHead}
use Rattle.object_cells.proofs.OwnCells.{IsPutOwned, IsOwnWord, beside_not_own}

-- a plain object's cell is an object's
pub plain_is_object : {k : Kind} → k ≡ kind.Plain → IsTrue (is_object_kind k)
plain_is_object plain = ap is_object_kind plain

-- the cell has the words that the heap has there
pub has_own_words : {heap : Heap} {cell : Cell} {words : List ℕ} → HasCell heap cell words
    → HasCell heap cell (words_of_cell heap cell)
has_own_words {heap} {cell} has = subst (HasCell heap cell) (sym has.words_are) has

-- the cell is the store of the object, to which the word of its slot for it refers
pub record IsOwnStore (heap : Heap) (cell : Cell) (store : ℕ) (other : Cell) : Type 0 where
  pub of_kind : other.layout.kind ≡ kind.Store
  pub no_number : HasNoNumber other
  pub refers : store ≡ reference_word other.at
  pub named : NamesFrom heap cell (cell.at + store_slot) other.at

-- A slot stands at the address, in the object itself or in its store, which is then the one cell beside it.
pub record IsSlotPlace (heap : Heap) (cell : Cell) (store at : ℕ) (others : List Cell) : Type 0 where
  pub own : IsOwnWord heap cell others at
  pub stores : (other : Cell) → Contains others other → IsOwnStore heap cell store other

-- a store has no number
store_no_number : {heap : Heap} {other : Cell} {words : List ℕ} → Whole heap → HasCell heap other words
    → other.layout.kind ≡ kind.Store → HasNoNumber other
store_no_number {heap} {other} {words} whole has store =
    (subst (λ k. IsSoundOf k heap other words) store (whole.sound other words has)).no_number

-- each numbered slot has such a place
pub numbered_place : {heap : Heap} {cell : Cell} {words : List ℕ} (slot at store : ℕ) → Whole heap
    → HasCell heap cell words → IsTrue (is_object_kind cell.layout.kind) → HasWord words store_slot store
    → IsNumbered heap cell words slot at → (others : List Cell) × IsSlotPlace heap cell store at others
numbered_place {heap} {cell} slot at store whole has object stored (IsNumbered.own below is of_cell) = (
  [],
  record {
    own = record {
      each = λ other there. absurd (none_in other there);
      inside = inl (record { from = of_cell.from; below = of_cell.below });
    };
    stores = λ other there. absurd (none_in other there);
  },
)
numbered_place {heap} {cell} slot at store whole has object stored
    (IsNumbered.beside word j other others refers_there refers of_kind counts is of_cell) =
    let same : store ≡ word = same_Some store word (sym stored ∙ refers_there) in
    let put : IsPutOwned heap at other = record {
      stood = has_own_words refers.has;
      of_kind = inl of_kind;
      header = λ is_header. omega (arith, is, is_header);
      length = λ of_store is_length. omega (arith, is, is_length);
    } in
    let own : IsOwnStore heap cell store other = record {
      of_kind = of_kind;
      no_number = store_no_number whole refers.has of_kind;
      refers = same ∙ refers.refers;
      named = names_store word has object refers_there refers (inl of_kind);
    } in (
      other ∷ [],
      record {
        own = record {
          each = λ one there. subst (IsPutOwned heap at) (one_in other one there) put;
          inside = inr (other, (0, omega arith, refl), record { from = of_cell.from; below = of_cell.below });
        };
        stores = λ one there. subst (IsOwnStore heap cell store) (one_in other one there) own;
      },
    )

-- so has each slot of a plain object
pub slot_place : {heap : Heap} {cell : Cell} {words slots : List ℕ} (slot at : ℕ) → Whole heap → HasCell heap cell words
    → cell.layout.kind ≡ kind.Plain → (are : HasSlots heap words slots) → IsNumbered heap cell words slot at
    → (others : List Cell) × IsSlotPlace heap cell are.store at others
slot_place slot at whole has plain are numbered =
    numbered_place slot at are.store whole has (plain_is_object plain) are.slot numbered

-- the words of a box
pub box_size : {heap : Heap} {box : Cell} {words : List ℕ} → HasCell heap box words → box.layout.kind ≡ kind.Boxed
    → box.size ≡ 2
box_size has box = sym (words_are_size has) ∙ words_by_kind kind.Boxed has box

-- the integer of a box is one of the object's own words where a slot of it refers to the box
pub box_place : {heap : Heap} {cell box : Cell} {words : List ℕ} → HasCell heap box words → box.layout.kind ≡ kind.Boxed
    → IsOwnWord heap cell (box ∷ []) (box.at + 1)
box_place {heap} {box = box} has of_kind =
    let put : IsPutOwned heap (box.at + 1) box = record {
      stood = has_own_words has;
      of_kind = inr of_kind;
      header = λ same. omega (arith, same);
      length = λ store.
          let apart : kind.Store ≡ kind.Boxed = sym store ∙ of_kind in
          cc;
    } in
    record {
      each = λ one there. subst (IsPutOwned heap (box.at + 1)) (one_in box one there) put;
      inside = inr (
        box,
        (0, omega arith, refl),
        record { from = omega arith; below = omega (arith, box_size has of_kind) },
      );
    }

-- an object names the box to which a slot of it refers, from the address of this slot
pub slot_names_box : {heap : Heap} {cell box : Cell} {words others : List ℕ} (k word : ℕ) → HasCell heap cell words
    → IsTrue (is_object_kind cell.layout.kind) → (slot : SlotOfNumber heap cell words k word)
    → RefersTo heap word box others → box.layout.kind ≡ kind.Boxed → NamesFrom heap cell slot.at box.at
slot_names_box {box = box} {words} {others} k word has object slot refers of_kind = record {
  words = words;
  has = has;
  object = object;
  word = word;
  of_owner = slot.slot;
  cell = box;
  others = others;
  refers = refers;
  owned = subst IsOwnedKind (sym of_kind) tt;
  at = refl;
}

-- so a plain object does, from that of a tagged slot
pub names_box : {heap : Heap} {cell box : Cell} {words slots others : List ℕ} (k word : ℕ) → HasCell heap cell words
    → cell.layout.kind ≡ kind.Plain → HasSlots heap words slots → HasWord slots k word → IsTaggedSlot cell k
    → RefersTo heap word box others → box.layout.kind ≡ kind.Boxed
    → (a : ℕ) × (IsNumbered heap cell words k a × NamesFrom heap cell a box.at)
names_box k word has plain are there tagged refers of_kind =
    let slot = slot_of_number k word has plain are there tagged in
    (slot.at, (slot.numbered, slot_names_box k word has (plain_is_object plain) slot refers of_kind))

-- no other slot of the object refers to the box
pub no_other_slot_names : {heap : Heap} {cell box : Cell} {words others : List ℕ} (slot word k other : ℕ) → Whole heap
    → HasCell heap cell words → IsTrue (is_object_kind cell.layout.kind) → SlotOfNumber heap cell words slot word
    → RefersTo heap word box others → box.layout.kind ≡ kind.Boxed → k ≢ slot → SlotOfNumber heap cell words k other
    → IsNoBoxOf (box ∷ []) other
no_other_slot_names {heap} {cell} {box} {words} {others} slot word k other whole has object first refers of_kind apart
    second one among is_box same =
    let is : box ≡ one = one_in box one among in
    let refers_too : RefersTo heap other box others =
    record { refers = same ∙ ap (λ (c : Cell). reference_word c.at) (sym is); has = refers.has } in
    let at : second.at ≡ first.at = whole.owned cell cell second.at first.at box.at
    (slot_names_box k other has object second refers_too of_kind)
    (slot_names_box slot word has object first refers of_kind) in
    apart (one_number k slot first.at whole.rows has object
    (subst (IsNumbered heap cell words k) at second.numbered) first.numbered)

-- so no other tagged slot of a plain object does
pub no_other_names_box : {heap : Heap} {cell box : Cell} {words slots others : List ℕ} (slot word k other : ℕ)
    → Whole heap
    → HasCell heap cell words → cell.layout.kind ≡ kind.Plain → HasSlots heap words slots
    → HasWord slots slot word → IsTaggedSlot cell slot → RefersTo heap word box others → box.layout.kind ≡ kind.Boxed
    → k ≢ slot → HasWord slots k other → IsTaggedSlot cell k → IsNoBoxOf (box ∷ []) other
no_other_names_box slot word k other whole has plain are there tagged refers of_kind apart there_too tagged_too =
    no_other_slot_names slot word k other whole has (plain_is_object plain)
    (slot_of_number slot word has plain are there tagged) refers of_kind apart
    (slot_of_number k other has plain are there_too tagged_too)

-- no slot stands where the integer of a box does
pub slot_not_in_box : {heap : Heap} {cell box : Cell} {words others : List ℕ} (k a : ℕ) → Whole heap
    → HasCell heap cell words → IsTrue (is_object_kind cell.layout.kind) → HasCell heap box others
    → box.layout.kind ≡ kind.Boxed → IsNumbered heap cell words k a → a ≢ box.at + 1
slot_not_in_box {box = box} k a whole has object has_box of_kind (IsNumbered.own below is of_cell) same =
    let of_box : IsOfCell box a = record {
      from = omega (arith, same);
      below = omega (arith, same, box_size has_box of_kind);
    } in
    beside_not_own a a whole has object of_cell has_box (inr of_kind) of_box refl
slot_not_in_box {box = box} k a whole has object has_box of_kind
    (IsNumbered.beside store j other others slot refers is_store counts is of_cell) same =
    let of_box : IsOfCell box a = record {
      from = omega (arith, same);
      below = omega (arith, same, box_size has_box of_kind);
    } in
    let one : other ≡ box = cells_apart a whole.rows refers.has has_box of_cell of_box in
    let apart : kind.Store ≡ kind.Boxed = sym is_store ∙ ap (λ (c : Cell). c.layout.kind) one ∙ of_kind in
    cc

-- nor does a word of the object's cell
pub own_not_in_box : {heap : Heap} {cell box : Cell} {words others : List ℕ} (a : ℕ) → Whole heap
    → HasCell heap cell words → IsTrue (is_object_kind cell.layout.kind) → IsOfCell cell a → HasCell heap box others
    → box.layout.kind ≡ kind.Boxed → a ≢ box.at + 1
own_not_in_box {box = box} a whole has object of_own has_box of_kind same =
    let of_box : IsOfCell box (box.at + 1) =
    record { from = omega arith; below = omega (arith, box_size has_box of_kind) } in
    beside_not_own (box.at + 1) a whole has object of_own has_box (inr of_kind) of_box (sym same)

-- so none of the head of a plain object's cell does
pub head_not_in_box : {heap : Heap} {cell box : Cell} {words others : List ℕ} → Whole heap → HasCell heap cell words
    → cell.layout.kind ≡ kind.Plain → HasCell heap box others → box.layout.kind ≡ kind.Boxed
    → NotInHead cell (box.at + 1)
head_not_in_box {cell = cell} whole has plain has_box of_kind offset head =
    let of_own : IsOfCell cell (cell.at + offset) = record {
      from = omega arith;
      below = omega (arith, head, words_by_kind kind.Plain has plain, words_are_size has);
    } in
    own_not_in_box (cell.at + offset) whole has (plain_is_object plain) of_own has_box of_kind
