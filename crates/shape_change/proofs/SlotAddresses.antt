-- The addresses at which the slots of a plain object stand: those in the object, and those in its store.
use Rattle.std.proofs.Common.{◌≡◌, ◌≢◌, ℕ, ◌+◌, ◌-◌, ◌<◌, ◌≤◌, ◌⊎◌, inl, inr}
use Rattle.std.proofs.Common.{List, length, drop, Contains, slice_get, get_or, refl, sym, ◌∙◌, ap, arith}
use Rattle.std.proofs.lemmas.Bool.{cases_lt}
use Rattle.std.proofs.lemmas.Bool.Decides.{nat_tests}
use Rattle.std.proofs.lemmas.Option.{slice_get-get_or}
use Rattle.tagged_word.specs.declared.layout.Kind.TheVariants as kind
use Rattle.tagged_word.specs.Cells.{plain_head, store_head}
use Rattle.page_space.specs.Extents.{roots_start}
use Rattle.heap_model.specs.Types.{Cell}
use Rattle.heap_model.specs.Heaps.{Heap, HasCell}
use Rattle.heap_model.specs.Slots.{HoldsStore}
use Rattle.heap_model.specs.Kinds.{HasWord, HasSlots}
use Rattle.heap_model.specs.Wholeness.{Whole}
use Rattle.heap_model.proofs.CellsApart.{used_few}
use Rattle.heap_model.proofs.CellWords.{slice_get-drop, words_by_kind, words_are_size}
use Rattle.heap_model.proofs.WordsAlike.{cell_below_roots}
use Rattle.object_cells.specs.CellWrites.{IsInCell}
use Rattle.shape_change.specs.Shifts.{slot_at}
use Rattle.object_cells.proofs.CellsRead.{word_stands}
use Rattle.object_cells.proofs.SlotPlaces.{own_slot, behind_cap}
use Rattle.object_cells.proofs.StoreCells.{store_cells, store_at, IsStoreOf, is_store_cell, store_cell_there}
use Rattle.object_cells.proofs.StoreCells.{cells_beside, store_is_other, slots_counted, more_slots}

-- a slot below the cap stands in the object
pub slot_at-own : (object cap store slot : ℕ) → slot < cap
    → slot_at object cap store slot ≡ object + (plain_head + slot)
slot_at-own object cap store slot below = grind (arith, nat_tests)

-- and one from the cap on in the store
pub slot_at-beside : (object cap store slot : ℕ) → cap ≤ slot
    → slot_at object cap store slot ≡ store + (store_head + (slot - cap))
slot_at-beside object cap store slot behind = grind (arith, nat_tests)

-- where so many slots stand: before the roots, those in the object and those in its store apart
pub record SlotsStand (heap : Heap) (object cap store count : ℕ) : Type 0 where
  pub own : object + (plain_head + cap) ≤ roots_start heap.space
  pub beside : cap < count → store + (store_head + (count - cap)) ≤ roots_start heap.space
  pub apart : cap < count
      → (object + (plain_head + cap) ≤ store) ⊎ (store + (store_head + (count - cap)) ≤ object)

-- the slots of a plain object stand so
pub slots_stand : {heap : Heap} {cell : Cell} {words slots : List ℕ} → Whole heap → HasCell heap cell words
    → cell.layout.kind ≡ kind.Plain → (are : HasSlots heap words slots)
    → SlotsStand heap cell.at cell.layout.cap (store_at are.stands) (length slots)
slots_stand whole has plain are =
    let few = used_few whole.rows in
    let size = words_by_kind kind.Plain has plain in
    let counted = slots_counted has plain are in
    record {
      own = omega (arith, cell_below_roots few has, words_are_size has, size);
      beside = λ some.
          let is = (more_slots has plain are some).1 in
          omega (arith, cell_below_roots few is.refers.has, is.at, is.size, counted);
      apart = λ some.
          let is = (more_slots has plain are some).1 in
          elim (cells_beside whole.rows has is.refers.has (store_is_other is plain)) [
            | inl before ↦ inl (omega (arith, before, words_are_size has, size, is.at))
            | inr behind ↦ inr (omega (arith, behind, is.at, is.size, counted))
          ];
    }

-- no two slots stand at one address
pub slots_are_apart : (heap : Heap) (object cap store count one other : ℕ) → SlotsStand heap object cap store count
    → one < count → other < count → slot_at object cap store one ≡ slot_at object cap store other → one ≡ other
slots_are_apart heap object cap store count one other stand below below_too same =
    grind (arith, nat_tests, stand.apart)

-- the words before the slots of the store are none of the object's cell, and none of its slots
pub record IsApart (heap : Heap) (cell : Cell) (store count at : ℕ) : Type 0 where
  pub object : cell.at ≢ at
  pub slots : (one : ℕ) → one < count → slot_at cell.at cell.layout.cap store one ≢ at
  pub below : at < roots_start heap.space

-- so it is
pub head_is_apart : {heap : Heap} {cell other : Cell} {words slots : List ℕ} (k : ℕ) → Whole heap
    → HasCell heap cell words → cell.layout.kind ≡ kind.Plain → (are : HasSlots heap words slots)
    → IsStoreOf heap are.store are.beside (store_at are.stands) other → k < store_head
    → IsApart heap cell (store_at are.stands) (length slots) (other.at + k)
head_is_apart {heap} {cell} {other} {words} {slots} k whole has plain are is head =
    let cap : ℕ = cell.layout.cap in
    let store : ℕ = store_at are.stands in
    let size = words_by_kind kind.Plain has plain in
    let long = words_are_size has in
    let at = is.at in
    let room = is.size in
    let between = cells_beside whole.rows has is.refers.has (store_is_other is plain) in
    record {
      object = λ same. grind (arith, between, long, size, room);
      slots = λ one below same. grind (arith, nat_tests, between, long, size, room, at);
      below = omega (arith, cell_below_roots (used_few whole.rows) is.refers.has, room, head);
    }

-- a word beside an object stands in its store
beside_read : {heap : Heap} {word : ℕ} {beside : List ℕ} (k : ℕ) (stands : HoldsStore heap kind.Store word beside)
    → k < length beside → slice_get heap.words (store_at stands + (store_head + k)) ≡ slice_get beside k
beside_read k HoldsStore.none below = absurd (omega arith)
beside_read {heap} k (HoldsStore.store to cell words refers of_kind) below =
    let beside : List ℕ = drop store_head words in
    let there : HasWord beside k (get_or beside k 0) = slice_get-get_or beside k 0 below in
    let here : HasWord words (store_head + k) (get_or beside k 0) =
    sym (slice_get-drop store_head words k (store_head + k) refl) ∙ there in
    word_stands (store_head + k) (get_or beside k 0) refers.has here ∙ sym there

-- a slot is read at its address
pub slot_read : {heap : Heap} {cell : Cell} {words slots : List ℕ} (slot : ℕ) → HasCell heap cell words
    → cell.layout.kind ≡ kind.Plain → (are : HasSlots heap words slots) → slot < length slots
    → slice_get heap.words (slot_at cell.at cell.layout.cap (store_at are.stands) slot) ≡ slice_get slots slot
slot_read {heap} {cell} slot has plain are below = elim (cases_lt slot cell.layout.cap) [
  | inl own ↦
      ap (slice_get heap.words) (slot_at-own cell.at cell.layout.cap (store_at are.stands) slot own)
      ∙ own_slot slot has plain are own
  | inr from ↦
      let few : slot - cell.layout.cap < length are.beside = omega (arith, slots_counted has plain are, below, from) in
      ap (slice_get heap.words) (slot_at-beside cell.at cell.layout.cap (store_at are.stands) slot from)
      ∙ beside_read (slot - cell.layout.cap) are.stands few
      ∙ behind_cap slot cell.layout.cap has plain are refl from
]

-- The address is one of the object's cell, or one of its store.
pub data IsOfObject (cell : Cell) (others : List Cell) (at : ℕ) : Type 0 where
  in_object : IsInCell at cell → IsOfObject cell others at
  in_store : (other : Cell) → Contains others other → IsInCell at other → IsOfObject cell others at

-- so is that of each slot
pub slot_is_of_object : {heap : Heap} {cell : Cell} {words slots : List ℕ} (slot : ℕ) → HasCell heap cell words
    → cell.layout.kind ≡ kind.Plain → (are : HasSlots heap words slots) → slot < length slots
    → IsOfObject cell (store_cells are.stands) (slot_at cell.at cell.layout.cap (store_at are.stands) slot)
slot_is_of_object {cell = cell} slot has plain are below = elim (cases_lt slot cell.layout.cap) [
  | inl own ↦
      let at = slot_at-own cell.at cell.layout.cap (store_at are.stands) slot own in
      IsOfObject.in_object (record {
        from = omega (arith, at);
        below = omega (arith, at, words_are_size has, words_by_kind kind.Plain has plain);
      })
  | inr from ↦
      let counted = slots_counted has plain are in
      let at = slot_at-beside cell.at cell.layout.cap (store_at are.stands) slot from in
      let there = store_cell_there are.stands (omega (arith, counted, below, from)) in
      let is = is_store_cell are.stands there.0 there.1 in
      IsOfObject.in_store there.0 there.1
      (record { from = omega (arith, at, is.at); below = omega (arith, at, is.at, is.size, counted, below, from) })
]
