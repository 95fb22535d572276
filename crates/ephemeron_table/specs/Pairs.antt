-- The pairs of a weak map's table, and what is left of them once one was removed.
use Rattle.std.specs.Prelude.{◌≡◌, ◌≢◌, ℕ, ◌+◌, ◌*◌, ◌<◌, ◌≤◌, ◌⊎◌, List, Some, slice_get, IsFalse}
use Rattle.tagged_word.specs.Cells.{store_head, store_slot}
use Rattle.object_graph.specs.Graphs.{Graph}
use Rattle.object_graph.specs.Reach.{is_marked, reach}
use Rattle.heap_model.specs.Types.{Cell}
use Rattle.heap_model.specs.Heaps.{Heap, HasCell, words_of_cell}
use Rattle.heap_model.specs.Slots.{RefersToPlace, reference_word}
use Rattle.heap_model.specs.Kinds.{Pair, count_offset, free_pair}
use Rattle.heap_model.specs.Needs.{capacity_at, count_at, word_at}
use Rattle.heap_model.specs.Remembered.{AreRemembered}
use Rattle.heap_model.specs.Wholeness.{Whole}
use Rattle.heap_model.specs.Showing.{Shows}
use Rattle.page_space.specs.Extents.{eden_start}
use Rattle.write_barrier.specs.Seats.{heap_words}
use Rattle.write_barrier.specs.MutatorState.{Mutator, heap_of, IsTied}
use Rattle.object_cells.specs.Uses.{UsesMore}
use Rattle.object_cells.specs.Capacities.{ChangesObjectUsing}
use Rattle.weak_pairs.specs.Pairs.{AreWithout, HasPairsAt, IsFilledAt}

-- The word is not one of the pairs of the table that the weak map at the address refers to.
abbrev pub IsNoPairWord : Heap → ℕ → ℕ → Type 0
IsNoPairWord heap map word =
    (table : ℕ) → word_at heap (map + store_slot) ≡ reference_word table
    → (word < table + store_head) ⊎ (table + (store_head + 2 * capacity_at heap map) ≤ word)

-- Each cell of the old heap stands in the new one, where it stood and with its header, layout and length, and no other
-- does.
pub record HasSameCells (old new : Heap) : Type 0 where
  pub stays : (cell : Cell) (words : List ℕ) → HasCell old cell words → HasCell new cell (words_of_cell new cell)
  pub stood : (cell : Cell) (words : List ℕ) → HasCell new cell words → HasCell old cell (words_of_cell old cell)

-- Each weak map has the word for its table that it had, and each but the one at the address the same pairs.
pub record KeepsTables (old new : Heap) (map : ℕ) : Type 0 where
  pub named : (other : ℕ) (pairs : List Pair) → HasPairsAt old other pairs
      → word_at new (other + store_slot) ≡ word_at old (other + store_slot)
  pub others : (other : ℕ) (pairs : List Pair) → other ≢ map → HasPairsAt old other pairs → HasPairsAt new other pairs

-- The heap goes on showing each graph in which the object of the pair's key cannot be reached. The graph may have an
-- entry of that key, and goes on having it.
abbrev pub StaysShown : Heap → Heap → Pair → Type 0
StaysShown old new pair =
    (graph : Graph) (number : ℕ) → Shows old graph → RefersToPlace old pair.key number
    → IsFalse (is_marked (reach graph) number) → Shows new graph

-- The pair at a place of the weak map at an address was removed: the heap is whole again. Only the map's count changed,
-- which is one less, and words of its table's pairs, of which one is free; no word more is used, what is granted stays
-- so, and so does what is known of a cycle; each cell stands where it stood, and what is recorded stays right. Each
-- graph in which the pair's key cannot be reached is shown as before.
pub record RemovesPair (old new : Mutator) (map place : ℕ) (before : List Pair) : Type 0 where
  pub whole : Whole (heap_of new)
  pub tied : IsTied new
  pub paths : new.paths ≡ old.paths
  pub cycle : new.cycle ≡ old.cycle
  pub uses : UsesMore old new 0
  pub changes : ChangesObjectUsing old new 0 map (capacity_at (heap_of old) map)
  pub stay : (word : ℕ) → word ≢ map + count_offset → IsNoPairWord (heap_of old) map word
      → slice_get (heap_words new.seat) word ≡ slice_get (heap_words old.seat) word
  pub cells : HasSameCells (heap_of old) (heap_of new)
  pub tables : KeepsTables (heap_of old) (heap_of new) map
  pub counted : count_at (heap_of new) map + 1 ≡ count_at (heap_of old) map
  pub bound : new.recorded.bound ≡ old.recorded.bound
  pub remembered : old.recorded.bound ≡ eden_start old.seat.space → AreRemembered (heap_of old) old.recorded.slots
      → AreRemembered (heap_of new) new.recorded.slots
  pub after : List Pair
  pub are : HasPairsAt (heap_of new) map after
  pub without : AreWithout before after place
  pub free : (free : ℕ) × (slice_get after free ≡ Some free_pair)
  pub shows : (pair : Pair) → IsFilledAt before place pair → StaysShown (heap_of old) (heap_of new) pair
