-- What the slots of an object show, slot by slot.
use Rattle.std.specs.Prelude.{◌≡◌, ℕ, List, Some, slice_get, nat_lt, ℤ, IsTrue}
use Rattle.tagged_word.specs.Words.{small}
use Rattle.heap_model.specs.Types.{Value, Field}
use Rattle.heap_model.specs.Heaps.{Heap}
use Rattle.heap_model.specs.Slots.{small_word}
use Rattle.heap_model.specs.Showing.{ShowsValue, ShowsField}

-- the integer is small, and the word is its own
abbrev pub IsSmallWordOf : ℕ → ℤ → Type 0
IsSmallWordOf word v = IsTrue (small v) × (word ≡ small_word v)

-- the word of the slot at a place of a plain object shows the field there, if there is one
abbrev pub ShowsFieldAt : Heap → ℕ → List Field → ℕ → ℕ → Type 0
ShowsFieldAt heap cap fields at word =
    (field : Field) → slice_get fields at ≡ Some field → ShowsField heap (nat_lt at cap) word field.rep field.value

-- the word of the slot at a place of a list shows the element there, if there is one
abbrev pub ShowsElementAt : Heap → List Value → ℕ → ℕ → Type 0
ShowsElementAt heap elements at word =
    (value : Value) → slice_get elements at ≡ Some value → ShowsValue heap word value
