-- Words that say nothing of a weak table.
use Rattle.std.specs.Prelude.{ℕ, List}
use Rattle.heap_model.specs.Heaps.{Heap}
use Rattle.heap_model.specs.Kinds.{Pair, HasTable}

-- the word neither refers to a weak table of a power of two pairs nor says that there is none
abbrev pub HasNoTable : Heap → ℕ → Type 0
HasNoTable heap word = (pairs : List Pair) → HasTable heap word pairs → ⊥
