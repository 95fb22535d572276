-- What is known of a table's end, and of a word that is no reference, before its pairs are read.
use Rattle.std.proofs.Common.{◌≡◌, ℕ, ◌+◌, ◌*◌, ◌≤◌, length, Option, Some, None, refl, arith}
use Rattle.tagged_word.specs.Cells.{store_head}
use Rattle.page_space.specs.Extents.{marks_start}
use Rattle.write_barrier.specs.Seats.{heap_words}
use Rattle.write_barrier.specs.MutatorState.{Mutator}
use Rattle.weak_pairs.specs.declared.table.Table.{Table}

-- what is no address is nothing
pub none_from_not_some : (item : Option ℕ) → ((at : ℕ) → item ≡ Some at → ⊥) → item ≡ None
none_from_not_some None other = refl
none_from_not_some (Some at) other = absurd (other at refl)

-- a table that ends before the marks ends in the words
pub table_within : (main : Mutator) (table : Table)
    → table.at + (store_head + 2 * table.capacity) ≤ marks_start main.seat.space
    → length (heap_words main.seat) ≡ marks_start main.seat.space
    → table.at + (store_head + 2 * table.capacity) ≤ length (heap_words main.seat)
table_within main table within counted = omega arith
