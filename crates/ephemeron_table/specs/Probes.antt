-- The table of a weak map as its words are read, and where probing for a key ends.
use Rattle.std.specs.Prelude.{◌≡◌, ℕ, ◌+◌, ◌*◌, ◌<◌, ◌≤◌, List, Option, Some, None}
use Rattle.tagged_word.specs.Cells.{store_head, cell_words_most}
use Rattle.heap_model.specs.Heaps.{Heap}
use Rattle.heap_model.specs.Slots.{hole_word, reference_word}
pub use Rattle.heap_model.specs.Slots.{IsWeakCellAt}
use Rattle.heap_model.specs.Kinds.{Pair}
use Rattle.heap_model.specs.Needs.{capacity_at}
use Rattle.weak_pairs.specs.Pairs.{HasPairsAt}
use Rattle.weak_pairs.specs.declared.table.Table.{Table}
use Rattle.ephemeron_table.specs.declared.probing.End.{End}
use Rattle.ephemeron_table.specs.declared.probing.End.TheVariants as probe_end
use Rattle.weak_pairs.specs.Tables.{ArePairsIn, TableIsWithin, key_in}
use Rattle.weak_pairs.specs.Probes.{ProbesTo, PassesBefore}

-- The table of the weak map at the address: it has so many pairs at its own address, or stands for none.
pub record IsTableAt (heap : Heap) (map : ℕ) (table : Table) : Type 0 where
  pub capacity : capacity_at heap map ≡ table.capacity
  pub small : store_head + 2 * table.capacity ≤ cell_words_most
  pub within : TableIsWithin heap table
  pub pairs : (pairs : List Pair) → HasPairsAt heap map pairs → ArePairsIn heap.words table pairs
  pub refers : (pairs : List Pair) → (has : HasPairsAt heap map pairs) → 0 < table.capacity
      → has.are.store ≡ reference_word table.at

-- Where probing for the key of an object of this number ends: at the pair that has it, at one that holds nothing, or it
-- passes them all.
abbrev pub ProbingEnds : Heap → Table → ℕ → ℕ → End → Type 0
ProbingEnds heap table number key (probe_end.Key place) =
    ProbesTo heap table number key place × (key_in heap table.at place ≡ key)
ProbingEnds heap table number key (probe_end.Free place) =
    ProbesTo heap table number key place × (key_in heap table.at place ≡ hole_word)
ProbingEnds heap table number key probe_end.Nowhere = PassesBefore heap table number key table.capacity

-- Probing for a key that is new ends at this place, where the table is free, or it passes all pairs.
abbrev pub EndsNew : Heap → Table → ℕ → ℕ → Option ℕ → Type 0
EndsNew heap table number key (Some place) = ProbingEnds heap table number key (probe_end.Free place)
EndsNew heap table number key None = ProbingEnds heap table number key probe_end.Nowhere
