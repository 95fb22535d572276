-- Where the fields of plain objects stand.
use Rattle.std.specs.Prelude.{◌≡◌, ℕ, ◌+◌, ◌-◌, ◌<◌, ◌≤◌, Bool, true, false, List, Some, slice_get}
use Rattle.tagged_word.specs.Cells.{plain_head, store_head, store_slot}
use Rattle.tagged_word.specs.Readings.{reference_in}
use Rattle.heap_model.specs.Types.{Cell}
use Rattle.heap_model.specs.Heaps.{Heap, HasCell}
use Rattle.heap_model.specs.Kinds.{HasSlots}
use Rattle.heap_model.specs.Needs.{word_at}
use Rattle.shape_change.specs.declared.slots.Place.{Place}
use Rattle.shape_change.specs.declared.slots.Place.TheVariants.{InObject, InStore}

-- the address of a place of an object
abbrev pub place_at : ℕ → Place → ℕ
place_at object (InObject offset) = object + offset
place_at object (InStore store offset) = store + offset

-- whether the place is in the object itself
abbrev pub is_own : Place → Bool
is_own (InObject offset) = true
is_own (InStore store offset) = false

-- The slot of this number of the plain object at the address stands at the place.
abbrev pub StandsSlot : Heap → ℕ → ℕ → Place → Type 0
StandsSlot heap object slot place =
    (cell : Cell) (words slots : List ℕ) → HasCell heap cell words → cell.at ≡ object → HasSlots heap words slots
    → slice_get heap.words (place_at object place) ≡ slice_get slots slot

-- The slot of this number of the plain object at the address, which has so many in-object slots, is at the place:
-- behind the head of the object, or of the store to which it refers.
abbrev pub IsPlaceOf : Heap → ℕ → ℕ → ℕ → Place → Type 0
IsPlaceOf heap object cap slot (InObject offset) = (slot < cap) × (offset ≡ plain_head + slot)
IsPlaceOf heap object cap slot (InStore store offset) =
    (cap ≤ slot) × (reference_in (word_at heap (object + store_slot)) ≡ Some store)
    × (offset ≡ store_head + (slot - cap))
