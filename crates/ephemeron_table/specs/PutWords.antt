-- Which words putting an entry writes, by where its pair comes.
use Rattle.std.specs.Prelude.{◌≡◌, ◌≢◌, ℕ, ◌+◌, ◌*◌, ◌<◌, ◌≤◌}
use Rattle.heap_model.specs.Types.{Held}
use Rattle.heap_model.specs.Heaps.{Heap}
use Rattle.heap_model.specs.Slots.{reference_word}
use Rattle.heap_model.specs.Needs.{count_at}
use Rattle.write_barrier.specs.MutatorState.{Mutator, heap_of}
use Rattle.object_cells.specs.Made.{store_content}
use Rattle.ephemeron_table.specs.Rehashing.{CanGrow, PutsInNewTable}
use Rattle.ephemeron_table.specs.Probes.{ProbingEnds, IsTableAt}
use Rattle.weak_pairs.specs.Tables.{key_in, number_at, value_offset}
use Rattle.ephemeron_table.specs.Puttings.{FillsValue, PutsInTable}
use Rattle.ephemeron_table.specs.declared.probing.End.TheVariants as probe_end
use Rattle.weak_pairs.specs.declared.table.Table.{Table}

-- no pair of the table has the word of the key
abbrev pub LacksKeyWord : Heap → Table → ℕ → Type 0
LacksKeyWord heap table key = (place : ℕ) → place < table.capacity → key_in heap table.at place ≢ reference_word key

-- How the pair of the key whose cell stands at an address, and of a value, comes to the weak map whose cell stands at
-- an address. Where a pair of the map's table has the key, the slot of its value is filled. Where none has it, the pair
-- comes to the first place on the way of the key's number where the table is free, and the count is one more; or, if
-- twice the filled pairs with it are more than the table's, to a table that is made in the place of that one.
pub data PutsAt (old new : Mutator) (map key : ℕ) (value : Held) : Type 0 where
  to_pair : (table : Table) (place : ℕ) → IsTableAt (heap_of old) map table → place < table.capacity
      → key_in (heap_of old) table.at place ≡ reference_word key
      → FillsValue old new (table.at + value_offset place) (store_content value) → PutsAt old new map key value
  to_table : (table : Table) (place : ℕ) → IsTableAt (heap_of old) map table
      → ProbingEnds (heap_of old) table (number_at (heap_of old) key) (reference_word key) (probe_end.Free place)
      → 2 * (count_at (heap_of old) map + 1) ≤ table.capacity
      → PutsInTable old new map table place key (count_at (heap_of old) map + 1) value → PutsAt old new map key value
  to_new_table : (table : Table) → IsTableAt (heap_of old) map table → LacksKeyWord (heap_of old) table key
      → CanGrow old map table key (count_at (heap_of old) map)
      → PutsInNewTable old new map table key (count_at (heap_of old) map + 1) value → PutsAt old new map key value
