-- Words of slots and the values that they stand for, and the words of the cells that hold these.
use Rattle.std.specs.Prelude.{ℕ, ◌+◌, Bool, true, false, List, ◌++◌, length, take, drop}
use Rattle.std.specs.Prelude.{Some}
use Rattle.std.specs.Int.{cast_signed, w64}
use Rattle.heap_model.specs.Types.{Class, Held}
use Rattle.tagged_word.specs.declared.word.Class.TheVariants as of_class
use Rattle.handle_roots.specs.declared.held.Held.TheVariants.{Undefined, Int, Ref}
use Rattle.heap_model.specs.Heaps.{Heap}
use Rattle.heap_model.specs.Needs.{word_at, is_box_at}

-- what a reference stands for: the integer in a box, and else the object at the address
abbrev pub held_at : Heap → ℕ → Bool → Held
held_at heap at true = Int (cast_signed w64 (word_at heap (at + 1)))
held_at heap at false = Ref at

-- what the word of a slot stands for, by its class; an odd value is undefined
abbrev pub held_of_class : Heap → Class → Held
held_of_class heap (of_class.Small v) = Int v
held_of_class heap (of_class.Ref at) = held_at heap at (is_box_at heap (Some at))
held_of_class heap (of_class.Odd code) = Undefined

-- the words with others in place of those that stand from an address on
abbrev pub with_range : List ℕ → ℕ → List ℕ → List ℕ
with_range words at others = take at words ++ others ++ drop (at + length others) words
