-- What the slots of a list's store hold.
use Rattle.std.specs.Prelude.{◌≡◌, ℕ, Bool, true, false}
use Rattle.heap_model.specs.Heaps.{Heap}
use Rattle.heap_model.specs.Slots.{hole_word, IsValueWord}

-- the word of a slot that is used is that of a value, and that of any other is a hole
abbrev pub IsElement : Heap → Bool → ℕ → Type 0
IsElement heap true word = IsValueWord heap word
IsElement heap false word = word ≡ hole_word
