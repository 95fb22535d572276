-- What clearing weak maps of dead entries does.
use Rattle.std.specs.Prelude.{◌≡◌, ◌≢◌, ℕ, ◌+◌, ◌≤◌, ◌↔◌, List, Contains, slice_get, IsTrue}
use Rattle.page_space.specs.Extents.{eden_start}
use Rattle.object_graph.specs.Graphs.{Graph}
use Rattle.object_graph.specs.Reach.{is_marked, reach}
use Rattle.write_barrier.specs.Seats.{heap_words}
use Rattle.tagged_word.specs.Cells.{store_slot}
use Rattle.heap_model.specs.Heaps.{Heap}
use Rattle.heap_model.specs.Slots.{IsPlace}
use Rattle.heap_model.specs.Kinds.{Pair, count_offset}
use Rattle.heap_model.specs.Needs.{capacity_at, count_at, word_at}
use Rattle.heap_model.specs.Remembered.{AreRemembered}
use Rattle.heap_model.specs.Wholeness.{Whole}
use Rattle.heap_model.specs.Showing.{Shows}
use Rattle.write_barrier.specs.MutatorState.{Mutator, heap_of, IsTied}
use Rattle.object_cells.specs.Uses.{UsesMore}
use Rattle.weak_pairs.specs.Pairs.{HasPairsAt}
use Rattle.ephemeron_table.specs.Pairs.{HasSameCells, IsNoPairWord}
use Rattle.ephemeron_table.specs.Probes.{IsWeakCellAt}
use Rattle.ephemeron_clear.specs.Marked.{AreKeysMarked, HasLeft}

-- a weak map's cell stands at each address
abbrev pub AreMaps : Heap → List ℕ → Type 0
AreMaps heap maps = (map : ℕ) → Contains maps map → IsWeakCellAt heap map

-- the word is neither the count of one of the maps nor a word of a pair of its table
abbrev pub IsBesideMaps : Heap → List ℕ → ℕ → Type 0
IsBesideMaps heap maps word =
    (map : ℕ) → Contains maps map → (word ≢ map + count_offset) × IsNoPairWord heap map word

-- the place of each object of the graph that can be reached is marked
abbrev pub MarksReached : Heap → List ℕ → Graph → Type 0
MarksReached heap marked graph =
    (number at : ℕ) → IsTrue (is_marked (reach graph) number) → IsPlace heap number at → Contains marked at

-- Pairs whose keys are not marked were taken out of the tables of these weak maps.
pub record TakesUnmarked (old new : Mutator) (maps marked : List ℕ) : Type 0 where
  -- the heap is whole again, what is granted stays so, and so does what is known of a cycle
  pub whole : Whole (heap_of new)
  pub tied : IsTied new
  pub paths : new.paths ≡ old.paths
  pub cycle : new.cycle ≡ old.cycle
  -- no word more is used
  pub uses : UsesMore old new 0
  -- what is recorded stays right
  pub bound : new.recorded.bound ≡ old.recorded.bound
  pub remembered : old.recorded.bound ≡ eden_start old.seat.space → AreRemembered (heap_of old) old.recorded.slots
      → AreRemembered (heap_of new) new.recorded.slots
  -- each cell stands where it stood, and so does each object
  pub cells : HasSameCells (heap_of old) (heap_of new)
  pub places : (number at : ℕ) → IsPlace (heap_of old) number at ↔ IsPlace (heap_of new) number at
  -- each has as many slots or pairs as before, and each weak map the word for its table that it had
  pub capacities : (number at : ℕ) → IsPlace (heap_of old) number at
      → capacity_at (heap_of new) at ≡ capacity_at (heap_of old) at
  pub named : (map : ℕ) (pairs : List Pair) → HasPairsAt (heap_of old) map pairs
      → word_at (heap_of new) (map + store_slot) ≡ word_at (heap_of old) (map + store_slot)
  -- and counts no more filled pairs
  pub counts : (map : ℕ) → IsWeakCellAt (heap_of old) map → count_at (heap_of new) map ≤ count_at (heap_of old) map
  -- all words are as they were but the counts of the maps and their pairs
  pub stay : (word : ℕ) → IsBesideMaps (heap_of old) maps word
      → slice_get (heap_words new.seat) word ≡ slice_get (heap_words old.seat) word
  -- no pair with a marked key was taken out of a weak map, and of one that is none of these none at all
  pub left : (map : ℕ) (before : List Pair) → HasPairsAt (heap_of old) map before
      → HasLeft (heap_of new) map marked before
  pub others : (map : ℕ) (pairs : List Pair) → (Contains maps map → ⊥) → HasPairsAt (heap_of old) map pairs
      → HasPairsAt (heap_of new) map pairs
  -- Each graph that the heap showed is shown if all is marked in it that can be reached. It keeps its dead entries.
  pub shows : (graph : Graph) → Shows (heap_of old) graph → MarksReached (heap_of old) marked graph
      → Shows (heap_of new) graph

-- All of them were: each key of the maps is marked.
pub record Clears (old new : Mutator) (maps marked : List ℕ) : Type 0 where
  pub takes : TakesUnmarked old new maps marked
  pub cleared : (map : ℕ) (pairs : List Pair) → Contains maps map → HasPairsAt (heap_of new) map pairs
      → AreKeysMarked marked pairs
