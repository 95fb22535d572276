-- The slots of an object by their numbers, and the addresses at which these stand.
use Rattle.std.proofs.Common.{◌≡◌, ◌≢◌, ℕ, ◌+◌, ◌-◌, ◌≤◌, ◌<◌, List, length, drop, Contains, slice_get}
use Rattle.std.proofs.Common.{arith, IsTrue, refl, sym, ◌∙◌, ap, subst, inl, inr, length-drop}
use Rattle.std.proofs.lemmas.Bool.{cases_lt, false≢true}
use Rattle.std.proofs.lemmas.Option.{none-some, same_Some}
use Rattle.tagged_word.specs.declared.layout.Kind.TheVariants as kind
use Rattle.tagged_word.specs.Cells.{scavenge_offsets, store_head, store_slot, proto_slot, plain_head, is_object_kind}
use Rattle.tagged_word.proofs.Members.{in_range, range_bounds}
use Rattle.tagged_word.proofs.Offsets.{IsPlainSlot, plain_slot_is}
use Rattle.heap_model.specs.Types.{Cell}
use Rattle.heap_model.specs.Heaps.{Heap, HasCell, words_of_cell}
use Rattle.heap_model.specs.Slots.{RefersTo, HoldsStore}
use Rattle.heap_model.specs.Kinds.{HasWord, HasSlots}
use Rattle.heap_model.specs.Wholeness.{HasRows, HasSlotAt}
use Rattle.heap_model.proofs.WordClasses.{undefined_refers_not}
use Rattle.heap_model.proofs.CellsApart.{IsOfCell, one_words, cells_apart}
use Rattle.heap_model.proofs.CellWords.{slice_get-drop, slice_get-append_left, words_by_kind, words_are_size}
use Rattle.heap_model.proofs.CellWords.{slots_by_kind, slots_of_kind, behind_head, behind_head_few}
use Rattle.heap_model.proofs.SlotWords.{same_target}
use Rattle.object_cells.specs.OwnSlots.{NamesNone}
use Rattle.object_cells.specs.SlotChanges.{IsTaggedSlot, HasTagged}
use Rattle.object_cells.proofs.SlotNumbers.{HasAddress, IsSlotOf, HasNumbers}
use Rattle.object_cells.proofs.SlotPlaces.{used_within, behind_cap}
use Rattle.object_cells.proofs.SlotTargets.{object_words}

-- The slot of this number of a plain object or a list stands at the address: in the object below its cap, and else in
-- its store.
pub data IsNumbered (heap : Heap) (cell : Cell) (words : List ℕ) (number at : ℕ) : Type 0 where
  own : number < cell.layout.cap → at ≡ cell.at + (plain_head + number) → IsOfCell cell at
      → IsNumbered heap cell words number at
  beside : (store k : ℕ) (other : Cell) (others : List ℕ) → HasWord words store_slot store
      → RefersTo heap store other others → other.layout.kind ≡ kind.Store → number ≡ cell.layout.cap + k
      → at ≡ other.at + (store_head + k) → IsOfCell other at → IsNumbered heap cell words number at

-- the size of a plain object's cell is its cap and the words of its head
plain_size : {heap : Heap} {cell : Cell} {words : List ℕ} → HasCell heap cell words → cell.layout.kind ≡ kind.Plain
    → cell.size ≡ plain_head + cell.layout.cap
plain_size has plain = sym (words_are_size has) ∙ words_by_kind kind.Plain has plain

-- and that of a store's cell two more than its length
pub store_size : {heap : Heap} {cell : Cell} {words : List ℕ} → HasCell heap cell words → cell.layout.kind ≡ kind.Store
    → cell.size ≡ 2 + cell.length
store_size has store = sym (words_are_size has) ∙ words_by_kind kind.Store has store

-- and that of an object's cell two and more
object_size : {heap : Heap} {cell : Cell} {words : List ℕ} → HasCell heap cell words
    → IsTrue (is_object_kind cell.layout.kind) → 2 ≤ cell.size
object_size {cell = cell} has object =
    omega (
      arith,
      words_are_size has,
      words_by_kind cell.layout.kind has refl,
      object_words cell.layout.kind cell.layout.cap cell.length object,
    )

-- the slot of this number has an address
abbrev pub SlotOfNumber : Heap → Cell → List ℕ → ℕ → ℕ → Type 0
SlotOfNumber heap cell words number word = HasAddress heap cell words (IsNumbered heap cell words) number word

-- a slot that stands beside the object has one
pub beside_number : {heap : Heap} {cell : Cell} {words : List ℕ} (store : ℕ) (slots : List ℕ) (k number word : ℕ)
    → HasWord words store_slot store → HoldsStore heap kind.Store store slots → HasWord slots k word
    → number ≡ cell.layout.cap + k → SlotOfNumber heap cell words number word
beside_number store slots k number word slot HoldsStore.none there is = absurd (none-some word there)
beside_number store slots k number word slot (HoldsStore.store to other others refers of_kind) there is =
    let long = words_by_kind kind.Store refers.has of_kind in
    let few : k < other.length = behind_head_few others k other.length word long there in
    let offset : ℕ = store_head + k in
    let among = in_range store_head other.length offset (omega arith) (omega arith) in
    let of_cell : IsOfCell other (other.at + offset) =
    record { from = omega arith; below = omega (arith, few, store_size refers.has of_kind) } in
    record {
      at = other.at + offset;
      numbered = IsNumbered.beside store k other others slot refers of_kind is refl of_cell;
      slot = HasSlotAt.beside store other others offset word slot refers
          (slots_by_kind other kind.Store offset of_kind among) (behind_head others k word there);
    }

-- a word among an object's slots below its cap is one of its own
own_word : {heap : Heap} {cell : Cell} {words slots : List ℕ} (k : ℕ) → HasCell heap cell words
    → cell.layout.kind ≡ kind.Plain → HasSlots heap words slots → k < cell.layout.cap
    → slice_get slots k ≡ slice_get words (plain_head + k)
own_word {cell = cell} {words} k has plain are below =
    let own : List ℕ = drop plain_head words in
    let within : k < length own =
    omega (arith, length-drop plain_head words, words_by_kind kind.Plain has plain, below) in
    ap (λ all. slice_get all k) are.are ∙ slice_get-append_left own are.beside k within
    ∙ slice_get-drop plain_head words k (plain_head + k) refl

-- each tagged slot has one
pub slot_of_number : {heap : Heap} {cell : Cell} {words slots : List ℕ} (k word : ℕ) → HasCell heap cell words
    → cell.layout.kind ≡ kind.Plain → HasSlots heap words slots → HasWord slots k word → IsTaggedSlot cell k
    → SlotOfNumber heap cell words k word
slot_of_number {heap} {cell} {words} {slots} k word has plain are there tagged = elim (cases_lt k cell.layout.cap) [
  | inl below ↦
      let at : ℕ = cell.at + (plain_head + k) in
      let of_cell : IsOfCell cell at =
      record { from = omega arith; below = omega (arith, below, plain_size has plain) } in
      record {
        at = at;
        numbered = IsNumbered.own below refl of_cell;
        slot = HasSlotAt.own (plain_head + k) word (tagged below) (sym (own_word k has plain are below) ∙ there);
      }
  | inr from ↦
      beside_number are.store are.beside (k - cell.layout.cap) k word are.slot are.stands
      (behind_cap k cell.layout.cap has plain are refl from ∙ there) (omega (arith, from))
]

-- what the slot for the prototype holds names no store, table or box
abbrev pub ProtoNamesNone : Heap → List ℕ → Type 0
ProtoNamesNone heap words = (word : ℕ) → HasWord words proto_slot word → NamesNone heap word

-- A slot of a plain object is that of its store, or a tagged one of some number.
abbrev pub SlotKind : Heap → Cell → List ℕ → List ℕ → ℕ → ℕ → Type 0
SlotKind heap cell words slots at word =
    IsSlotOf cell words (HasTagged cell slots) (IsNumbered heap cell words) at word

-- a slot in the object's cell that names something is one of these
own_kind : {heap : Heap} {cell : Cell} {words slots : List ℕ} (offset word : ℕ) → HasCell heap cell words
    → cell.layout.kind ≡ kind.Plain → HasSlots heap words slots → ProtoNamesNone heap words
    → Contains (scavenge_offsets cell.layout cell.length) offset → HasWord words offset word
    → (NamesNone heap word → ⊥) → SlotKind heap cell words slots (cell.at + offset) word
own_kind {heap} {cell} {words} {slots} offset word has plain are proto there stands names =
    elim (plain_slot_is cell.layout offset (slots_of_kind cell kind.Plain offset plain there)) [
      | IsPlainSlot.store same ↦
          IsSlotOf.of_store (ap (λ n. cell.at + n) (sym same)) (ap (slice_get words) same ∙ stands)
      | IsPlainSlot.proto same ↦ absurd (names (proto word (ap (slice_get words) same ∙ stands)))
      | IsPlainSlot.own place ↦
          let k : ℕ = offset - plain_head in
          let is : plain_head + k ≡ offset = omega (arith, place.behind) in
          let below : k < cell.layout.cap = omega (arith, place.used, used_within has plain) in
          let of_cell : IsOfCell cell (cell.at + offset) =
          record { from = omega arith; below = omega (arith, below, is, plain_size has plain) } in
          let tagged : IsTaggedSlot cell k =
          λ within. subst (Contains (scavenge_offsets cell.layout cell.length)) (sym is) there in
          IsSlotOf.of_number k (own_word k has plain are below ∙ ap (slice_get words) is ∙ stands, tagged)
          (IsNumbered.own below (ap (λ n. cell.at + n) (sym is)) of_cell)
    ]

-- the slots of the store to which the word refers
pub record IsStoreOf (slots : List ℕ) (other : Cell) (others : List ℕ) : Type 0 where
  pub of_kind : other.layout.kind ≡ kind.Store
  pub are : slots ≡ drop store_head others

-- what stands beside an object are the slots of the store to which its word refers
pub is_store_of : {heap : Heap} {other : Cell} {others : List ℕ} (store : ℕ) (slots : List ℕ)
    → HoldsStore heap kind.Store store slots → RefersTo heap store other others → IsStoreOf slots other others
is_store_of {other = other} store slots HoldsStore.none refers = absurd (undefined_refers_not other.at refers.refers)
is_store_of {heap} {other} {others} store slots (HoldsStore.store to cell words target of_kind) refers =
    let same : cell ≡ other = same_target target refers in
    let has : HasCell heap other words = subst (λ (one : Cell). HasCell heap one words) same target.has in
    record {
      of_kind = subst (λ (one : Cell). one.layout.kind ≡ kind.Store) same of_kind;
      are = ap (drop store_head) (one_words has refers.has);
    }

-- the store of an object
pub store_of : {heap : Heap} {other : Cell} {words slots others : List ℕ} (store : ℕ) (are : HasSlots heap words slots)
    → HasWord words store_slot store → RefersTo heap store other others → IsStoreOf are.beside other others
store_of {heap} {words = words} store are slot refers =
    let same : are.store ≡ store = same_Some are.store store (sym are.slot ∙ slot) in
    is_store_of store are.beside (subst (λ w. HoldsStore heap kind.Store w are.beside) same are.stands) refers

-- a slot of the store beside an object, by its number among these slots
pub record BesideSlot (heap : Heap) (cell : Cell) (words slots : List ℕ) (at word : ℕ) : Type 0 where
  pub k : ℕ
  pub there : HasWord slots k word
  pub numbered : IsNumbered heap cell words (cell.layout.cap + k) at

-- each slot of the store has a number
pub beside_slot : {heap : Heap} {cell other : Cell} {words slots others : List ℕ} (store offset word : ℕ)
    → HasWord words store_slot store → HoldsStore heap kind.Store store slots → RefersTo heap store other others
    → Contains (scavenge_offsets other.layout other.length) offset → HasWord others offset word
    → BesideSlot heap cell words slots (other.at + offset) word
beside_slot {other = other} {slots = slots} {others} store offset word slot own_slots refers there stands =
    let is = is_store_of store slots own_slots refers in
    let bounds = range_bounds store_head other.length offset (slots_of_kind other kind.Store offset is.of_kind there) in
    let k : ℕ = offset - store_head in
    let here : store_head + k ≡ offset = omega (arith, bounds.0) in
    let of_cell : IsOfCell other (other.at + offset) =
    record { from = omega arith; below = omega (arith, bounds.1, store_size refers.has is.of_kind) } in
    record {
      k = k;
      there = ap (λ all. slice_get all k) is.are ∙ slice_get-drop store_head others k offset here ∙ stands;
      numbered = IsNumbered.beside store k other others slot refers is.of_kind refl
          (ap (λ n. other.at + n) (sym here)) of_cell;
    }

-- a slot in a plain object's store is one of these
beside_kind : {heap : Heap} {cell other : Cell} {words slots others : List ℕ} (store offset word : ℕ)
    → HasCell heap cell words → cell.layout.kind ≡ kind.Plain → HasSlots heap words slots
    → HasWord words store_slot store → RefersTo heap store other others
    → Contains (scavenge_offsets other.layout other.length) offset → HasWord others offset word
    → SlotKind heap cell words slots (other.at + offset) word
beside_kind {heap} {cell} store offset word has plain are slot refers there stands =
    let cap : ℕ = cell.layout.cap in
    let same : are.store ≡ store = same_Some are.store store (sym are.slot ∙ slot) in
    let slots_there = subst (λ w. HoldsStore heap kind.Store w are.beside) same are.stands in
    let found = beside_slot {cell = cell} store offset word slot slots_there refers there stands in
    let number : ℕ = cap + found.k in
    let from : cap ≤ number = omega arith in
    let tagged : IsTaggedSlot cell number = λ below. absurd (omega (arith, below, from)) in
    let back : number - cap ≡ found.k = omega (arith, from) in
    IsSlotOf.of_number number
    (sym (behind_cap number cap has plain are refl from) ∙ ap (slice_get are.beside) back ∙ found.there, tagged)
    found.numbered

-- each slot of a plain object that names something is one of these
pub slot_kind : {heap : Heap} {cell : Cell} {words slots : List ℕ} {at word : ℕ} → HasCell heap cell words
    → cell.layout.kind ≡ kind.Plain → HasSlots heap words slots → ProtoNamesNone heap words
    → HasSlotAt heap cell words at word → (NamesNone heap word → ⊥) → SlotKind heap cell words slots at word
slot_kind has plain are proto (HasSlotAt.own offset word there stands) names =
    own_kind offset word has plain are proto there stands names
slot_kind has plain are proto (HasSlotAt.beside store other others offset word slot refers there stands) names =
    beside_kind store offset word has plain are slot refers there stands

-- one number has one address
pub one_address : {heap : Heap} {cell : Cell} {words : List ℕ} (number at other : ℕ)
    → IsNumbered heap cell words number at → IsNumbered heap cell words number other → at ≡ other
one_address number at other (IsNumbered.own below is of_cell) (IsNumbered.own below' is' of_cell') = is ∙ sym is'
one_address number at other (IsNumbered.own below is of_cell)
    (IsNumbered.beside store k cell others slot refers of_kind counts is' of_cell') =
    absurd (omega (arith, below, counts))
one_address number at other (IsNumbered.beside store k cell others slot refers of_kind counts is of_cell)
    (IsNumbered.own below is' of_cell') = absurd (omega (arith, below, counts))
one_address {heap} number at other (IsNumbered.beside store k cell others slot refers of_kind counts is of_cell)
    (IsNumbered.beside store' k' cell' others' slot' refers' of_kind' counts' is' of_cell') =
    let one : store ≡ store' = same_Some store store' (sym slot ∙ slot') in
    let same : cell ≡ cell' = same_target (subst (λ w. RefersTo heap w cell others) one refers) refers' in
    omega (arith, ap (λ (c : Cell). c.at) same, counts, counts', is, is')

-- no object is a store
object_is_no_store : {cell other : Cell} → cell ≡ other → IsTrue (is_object_kind cell.layout.kind)
    → other.layout.kind ≡ kind.Store → ⊥
object_is_no_store same object store =
    false≢true (sym (ap is_object_kind store) ∙ ap (λ (one : Cell). is_object_kind one.layout.kind) (sym same) ∙ object)

-- one address has one number
pub one_number : {heap : Heap} {cell : Cell} {words : List ℕ} (number other at : ℕ) → HasRows heap
    → HasCell heap cell words → IsTrue (is_object_kind cell.layout.kind) → IsNumbered heap cell words number at
    → IsNumbered heap cell words other at → number ≡ other
one_number number other at rows has object (IsNumbered.own below is of_cell) (IsNumbered.own below' is' of_cell') =
    omega (arith, is, is')
one_number number other at rows has object (IsNumbered.own below is of_cell)
    (IsNumbered.beside store k cell others slot refers of_kind counts is' of_cell') =
    absurd (object_is_no_store (cells_apart at rows has refers.has of_cell of_cell') object of_kind)
one_number number other at rows has object (IsNumbered.beside store k cell others slot refers of_kind counts is of_cell)
    (IsNumbered.own below is' of_cell') =
    absurd (object_is_no_store (cells_apart at rows has refers.has of_cell' of_cell) object of_kind)
one_number number other at rows has object (IsNumbered.beside store k cell others slot refers of_kind counts is of_cell)
    (IsNumbered.beside store' k' cell' others' slot' refers' of_kind' counts' is' of_cell') =
    let same : cell ≡ cell' = cells_apart at rows refers.has refers'.has of_cell of_cell' in
    omega (arith, ap (λ (c : Cell). c.at) same, counts, counts', is, is')

-- no slot with a number is a word of the cell's head
number_is_not_head : {heap : Heap} {cell : Cell} {words : List ℕ} (number at offset : ℕ) → HasRows heap
    → HasCell heap cell words → IsTrue (is_object_kind cell.layout.kind) → IsNumbered heap cell words number at
    → offset < plain_head → offset < cell.size → at ≡ cell.at + offset → ⊥
number_is_not_head number at offset rows has object (IsNumbered.own below is of_cell) head within same =
    omega (arith, is, same, head)
number_is_not_head {cell = cell} number at offset rows has object
    (IsNumbered.beside store k other others slot refers of_kind counts is of_cell) head within same =
    let of_own : IsOfCell cell at = record { from = omega (arith, same); below = omega (arith, same, within) } in
    object_is_no_store (cells_apart at rows has refers.has of_own of_cell) object of_kind

-- the address is none of the head of the plain object's cell
abbrev pub NotInHead : Cell → ℕ → Type 0
NotInHead cell at = (offset : ℕ) → offset < plain_head → cell.at + offset ≢ at

-- no slot with a number of a plain object is one
pub number_not_in_head : {heap : Heap} {cell : Cell} {words : List ℕ} (number at : ℕ) → HasRows heap
    → HasCell heap cell words → cell.layout.kind ≡ kind.Plain → IsNumbered heap cell words number at
    → NotInHead cell at
number_not_in_head number at rows has plain numbered offset head same =
    number_is_not_head number at offset rows has (ap is_object_kind plain) numbered head
    (omega (arith, head, plain_size has plain)) (sym same)

-- so the slots of an object have numbers, where each of the old ones has an address, and each of the new ones that
-- names something is that of its store or has a number
pub has_numbers : {old new : Heap} {cell came : Cell} {was is : ℕ → ℕ → Type 0} → HasRows old
    → HasCell old cell (words_of_cell old cell) → IsTrue (is_object_kind cell.layout.kind)
    → ((k word : ℕ) → was k word → SlotOfNumber old cell (words_of_cell old cell) k word)
    → ((at word : ℕ) → HasSlotAt new came (words_of_cell new came) at word → (NamesNone new word → ⊥)
    → IsSlotOf came (words_of_cell new came) is (IsNumbered new came (words_of_cell new came)) at word)
    → HasNumbers old new cell came was (IsNumbered old cell (words_of_cell old cell)) is
    (IsNumbered new came (words_of_cell new came))
has_numbers rows has object were are = record {
  were = were;
  one_number = λ k other at numbered numbered_too. one_number k other at rows has object numbered numbered_too;
  not_store = λ k at numbered same. number_is_not_head k at store_slot rows has object numbered (omega arith)
      (omega (arith, object_size has object)) same;
  are = λ at word named words slot refers owned. are at word slot (λ none. none named words refers owned);
  one_address = one_address;
}
