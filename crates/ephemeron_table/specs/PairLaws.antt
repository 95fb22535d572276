-- What a change of a weak map's pairs makes of the heap, and of the graph that it shows.
use Rattle.std.specs.Prelude.{◌≡◌, ◌≢◌, ℕ, List, ◌∷◌, length, Option, Some, None, slice_get, IsTrue}
use Rattle.std.specs.Prelude.{IsSome}
use Rattle.heap_model.specs.Types.{Value, Cell}
use Rattle.object_graph.specs.declared.object.Object.TheVariants.{Weak}
use Rattle.object_graph.specs.Graphs.{Graph, WeakObject}
use Rattle.object_graph.specs.Meaning.{reweave}
use Rattle.object_graph.specs.Reach.{is_marked, reach}
use Rattle.object_graph.specs.Invariants.{IsValue}
use Rattle.heap_model.specs.Heaps.{Heap, words_of_cell}
use Rattle.heap_model.specs.Slots.{RefersToPlace}
use Rattle.heap_model.specs.Kinds.{Pair}
use Rattle.heap_model.specs.Wholeness.{Whole, HasRows}
use Rattle.heap_model.specs.Showing.{ShowsEntry, ShowsWeak}
use Rattle.heap_model.specs.Changes.{CellsChange, IsOwnChange}
use Rattle.write_barrier.specs.MutatorState.{Mutator, heap_of, MainShows}
use Rattle.write_barrier.specs.Recording.{Remembers}
use Rattle.write_barrier.specs.Storing.{StoresOn}
use Rattle.object_cells.specs.HeldValues.{IsReachedValue}
use Rattle.object_cells.specs.Uses.{TakesRun}
use Rattle.weak_pairs.specs.Pairs.{IsFilledAt}
use Rattle.ephemeron_table.specs.PairWrites.{WritesWeak, RefillsPairs}
use Rattle.weak_pairs.specs.Entries.{entries_with}

-- Words of one weak map's own cells were written in a whole heap, pair by pair.
pub record RefillsWeak (old new : Heap) (cell : Cell) (others made : List Cell) : Type 0 where
  pub whole : Whole old
  pub writes : WritesWeak old new cell others made
  pub paths : new.paths ≡ old.paths
  pub pairs : RefillsPairs old new cell others made

-- Then cells stand in rows again: the map's and these others as they were, those that were made, and all else as
-- before. The change is the map's own, and the heap is whole again.
abbrev pub WrittenPairsAreOwn : Type 0
WrittenPairsAreOwn =
    (old new : Heap) (cell : Cell) (others made : List Cell) → RefillsWeak old new cell others made
    → HasRows new × CellsChange old new (cell ∷ others) (cell ∷ others) made
    × IsOwnChange old new (cell ∷ others) (cell ∷ others) made × Whole new

-- The entry of one key was put, or removed: the pairs of all other keys are kept, and its own, if there is one, is
-- the one that was put, which shows it. Where it was removed, no pair was put.
pub record PutsOne (old new : Heap) {cell : Cell} {others made : List Cell}
    (pairs : RefillsPairs old new cell others made)
    (number : ℕ) (value : Option Value) : Type 0 where
  pub kept : (at : ℕ) (pair : Pair) → IsFilledAt pairs.before at pair → (RefersToPlace old pair.key number → ⊥)
      → (place : ℕ) × IsFilledAt pairs.now place pair × (pairs.refills.origin place ≡ at) × (place ≢ pairs.refills.one)
  pub own : (at : ℕ) (pair : Pair) → IsFilledAt pairs.now at pair → RefersToPlace new pair.key number
      → (at ≡ pairs.refills.one) × IsSome value
  pub shown : (what : Value) → value ≡ Some what
      → (pair : Pair) × IsFilledAt pairs.now pairs.refills.one pair
      × ShowsEntry new pair (record { key = number; value = what })
  pub none_put : value ≡ None → (pair : Pair) → IsFilledAt pairs.now pairs.refills.one pair → ⊥

-- the value may be an entry's: it has 64 bits or refers to an object of the graph that can be reached
pub record IsNewValue (graph : Graph) (value : Value) : Type 0 where
  pub is : IsValue (length graph.objects) value
  pub reached : IsReachedValue graph value

-- So a heap that showed a graph shows it with the entry of this key put in the map, or removed.
abbrev pub WrittenEntriesShow : Type 0
WrittenEntriesShow =
    (old new : Mutator) (graph : Graph) (weak : WeakObject) (cell : Cell) (others made : List Cell) (number : ℕ)
    (value : Option Value) → MainShows old graph
    → slice_get graph.objects weak.number ≡ Some (Weak weak.entries) → IsTrue (is_marked (reach graph) weak.number)
    → IsTrue (is_marked (reach graph) number) → cell.header.object ≡ weak.number
    → ShowsWeak (heap_of old) (reach graph) cell (words_of_cell (heap_of old) cell) weak.entries
    → ((what : Value) → value ≡ Some what → IsNewValue graph what) → TakesRun old new made → StoresOn old new
    → (refills : RefillsWeak (heap_of old) (heap_of new) cell others made)
    → PutsOne (heap_of old) (heap_of new) refills.pairs number value
    → Remembers old new (cell ∷ others) (cell ∷ others) made
    → MainShows new (reweave graph weak (entries_with weak.entries number value))
