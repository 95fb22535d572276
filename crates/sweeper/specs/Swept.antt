-- What a sweep begins with, and what it comes to.
use Rattle.std.specs.Prelude.{◌≡◌, ℕ, ◌+◌, ◌<◌, ◌≤◌, ◌⊎◌, ◌↔◌, List, [], ◌∷◌, Option, Some, None, Contains}
use Rattle.std.specs.Prelude.{length, slice_get, ◌==◌, if◌then◌else◌}
use Rattle.tagged_word.specs.Cells.{scavenge_offsets}
use Rattle.page_space.specs.Extents.{eden_start, roots_start}
use Rattle.handle_roots.specs.Roots.{root_at}
use Rattle.free_runs.specs.FreeRuns.{AreFree}
use Rattle.free_runs.specs.Laws.{IsFreeWord}
use Rattle.write_barrier.specs.Seats.{RestStays, heap_words}
use Rattle.heap_model.specs.Types.{Cell}
use Rattle.heap_model.specs.Heaps.{Heap, HasCell}
use Rattle.heap_model.specs.Slots.{reference_word}
use Rattle.heap_model.specs.Kinds.{HasWord}
use Rattle.heap_model.specs.Collectable.{IsCollectable, AreFreeRuns}
use Rattle.heap_model.specs.Remembered.{AreRemembered}
use Rattle.heap_moves.specs.Moved.{IsMoved}
use Rattle.write_barrier.specs.MutatorState.{Mutator, heap_of}

-- What may be kept alone: what the first root words of variables refer to is marked, and so is what a slot of a marked
-- cell refers to, of those that a scavenge visits. These are pairs of weak tables too.
pub record IsSweepable (heap : Heap) (marked : List ℕ) : Type 0 where
  pub roots : (variable at : ℕ) → variable < heap.space.variables
      → slice_get heap.words (root_at heap.space variable) ≡ Some (reference_word at) → Contains marked at
  pub slots : (cell : Cell) (words : List ℕ) (offset at : ℕ) → HasCell heap cell words → Contains marked cell.at
      → Contains (scavenge_offsets cell.layout cell.length) offset → HasWord words offset (reference_word at)
      → Contains marked at

-- Where the cell at an address stands afterwards, if it stays: a marked one where it stood.
abbrev pub place_if_marked : List ℕ → ℕ → Option ℕ
place_if_marked [] at = None
place_if_marked (one ∷ more) at = if one == at then Some at else place_if_marked more at

-- the word at the address is one of a marked cell
pub record IsOfMarked (heap : Heap) (marked : List ℕ) (at : ℕ) : Type 0 where
  pub cell : Cell
  pub words : List ℕ
  pub has : HasCell heap cell words
  pub among : Contains marked cell.at
  pub from : cell.at ≤ at
  pub below : at < cell.at + cell.size

-- the word at the address is one of a cell
pub record IsCellWord (heap : Heap) (at : ℕ) : Type 0 where
  pub cell : Cell
  pub words : List ℕ
  pub has : HasCell heap cell words
  pub from : cell.at ≤ at
  pub below : at < cell.at + cell.size

-- A sweep that keeps the marked cells. Each of them stands where it stood, and each other cell is free and has no
-- number, and has words of cells alone. No word of a marked cell has changed, no root word and no layout word. Each
-- page has a row of free runs. They are single cells, and neither overlap nor touch; together they have the words of
-- pages that no marked cell has. Recorded are again the slots of pages that refer to young cells, if they were, and a
-- half that was empty is. What is known of a cycle of marking stays.
pub record Sweeps (old new : Mutator) (marked : List ℕ) : Type 0 where
  pub moved : IsMoved (heap_of old) (heap_of new) (place_if_marked marked)
  pub cells : (at : ℕ) → IsCellWord (heap_of new) at → IsCellWord (heap_of old) at
  pub seat : RestStays old.seat new.seat
  pub paths : new.paths ≡ old.paths
  pub cycle : new.cycle ≡ old.cycle
  pub young : new.young ≡ old.young
  pub outside : (at : ℕ) → (roots_start old.seat.space ≤ at) ⊎ IsOfMarked (heap_of old) marked at
      → slice_get (heap_words new.seat) at ≡ slice_get (heap_words old.seat) at
  pub rows : length new.free ≡ old.seat.space.sizes.pages
  pub free : AreFreeRuns (heap_of new) new.free
  pub apart : AreFree new.free
  pub filled : (at : ℕ) → at < eden_start old.seat.space
      → IsFreeWord new.free at ↔ (IsOfMarked (heap_of old) marked at → ⊥)
  pub bound : new.recorded.bound ≡ old.recorded.bound
  pub remembered : old.recorded.bound ≡ eden_start old.seat.space → AreRemembered (heap_of old) old.recorded.slots
      → AreRemembered (heap_of new) new.recorded.slots
  pub collectable : (half : ℕ) → IsCollectable (heap_of old) half → IsCollectable (heap_of new) half
