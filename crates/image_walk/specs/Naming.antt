-- The slots that refer to an address: of a cell, of an object, of some object.
use Rattle.std.specs.Prelude.{◌≡◌, ℕ, ◌+◌, Contains, Some, slice_get, IsTrue}
use Rattle.tagged_word.specs.Cells.{store_slot, scavenge_offsets, is_object_kind}
use Rattle.heap_model.specs.Types.{Cell}
use Rattle.heap_model.specs.Heaps.{Heap, words_of_cell}
use Rattle.heap_model.specs.Slots.{reference_word}
use Rattle.heap_model.specs.Kinds.{HasWord}
use Rattle.heap_model.specs.Wholeness.{HasSlotAt}
use Rattle.image_walk.specs.Spans.{StandsIn}

-- the slot at the address is one of the cell's, and refers to the named address
pub record IsSlotIn (heap : Heap) (cell : Cell) (named slot : ℕ) : Type 0 where
  pub offset : ℕ
  pub among : Contains (scavenge_offsets cell.layout cell.length) offset
  pub place : cell.at + offset ≡ slot
  pub refers : slice_get heap.words slot ≡ Some (reference_word named)

-- slot 1 of the object refers to the cell
pub record IsNextTo (heap : Heap) (object other : Cell) : Type 0 where
  pub slot : HasWord (words_of_cell heap object) store_slot (reference_word other.at)
  pub stands : StandsIn heap other

-- the slot at the address is one of the cell's to which slot 1 of the object refers, and refers to the named address
pub record IsSlotNextTo (heap : Heap) (object : Cell) (named slot : ℕ) : Type 0 where
  pub other : Cell
  pub next_to : IsNextTo heap object other
  pub is : IsSlotIn heap other named slot

-- the slot at the address is one of the object's, and refers to the named address
abbrev pub IsSlotOf : Heap → Cell → ℕ → ℕ → Type 0
IsSlotOf heap object named slot = HasSlotAt heap object (words_of_cell heap object) slot (reference_word named)

-- the same, if the cell is an object's
pub record IsSlotOfObject (heap : Heap) (cell : Cell) (named slot : ℕ) : Type 0 where
  pub object : IsTrue (is_object_kind cell.layout.kind)
  pub is : IsSlotOf heap cell named slot

-- the slot at the address is some object's, and refers to the named address
pub record IsSomeSlot (heap : Heap) (named slot : ℕ) : Type 0 where
  pub owner : Cell
  pub stands : StandsIn heap owner
  pub is : IsSlotOfObject heap owner named slot
