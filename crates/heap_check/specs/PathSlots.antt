-- What the slots of a plain object hold, slot by slot.
use Rattle.std.specs.Prelude.{◌≡◌, ℕ, ◌≤◌, List, length, Some, slice_get, nat_lt}
use Rattle.tagged_word.specs.Cells.{proto_slot}
use Rattle.heap_model.specs.Types.{Path, PathField}
use Rattle.heap_model.specs.Heaps.{Heap}
use Rattle.heap_model.specs.Slots.{hole_word, IsFieldWord}
use Rattle.heap_model.specs.Kinds.{HasWord, IsProtoWord}

-- the word of a slot at its place: that of the field there of the path, or a hole behind the fields
pub record FitsSlot (heap : Heap) (path : Path) (at word : ℕ) : Type 0 where
  pub field : (field : PathField) → slice_get path.fields at ≡ Some field
      → IsFieldWord heap (nat_lt at path.cap) field.rep word
  pub rest : length path.fields ≤ at → word ≡ hole_word

-- the prototype slot of a plain object with these words holds the word of one
pub record HasProto (heap : Heap) (words : List ℕ) : Type 0 where
  pub proto : ℕ
  pub slot : HasWord words proto_slot proto
  pub is : IsProtoWord heap proto
