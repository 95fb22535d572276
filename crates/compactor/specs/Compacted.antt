-- What a compaction comes to.
use Rattle.std.specs.Prelude.{◌≡◌, ◌≢◌, ℕ, ◌+◌, ◌*◌, ◌/◌, ◌<◌, ◌≤◌, ◌↔◌, false, List, Option, Some, None}
use Rattle.std.specs.Prelude.{Contains, IsTrue, length}
use Rattle.std.specs.List.{AllPairs}
use Rattle.tagged_word.specs.Cells.{is_free_kind}
use Rattle.page_space.specs.Sizes.{page_words}
use Rattle.page_space.specs.Extents.{eden_start}
use Rattle.free_runs.specs.FreeRuns.{AreFree, row_of}
use Rattle.free_runs.specs.Laws.{IsFreeWord}
use Rattle.write_barrier.specs.Seats.{RestStays}
use Rattle.heap_model.specs.Types.{Cell, Run}
use Rattle.heap_model.specs.Heaps.{Heap, HasCell}
use Rattle.heap_model.specs.Collectable.{IsCollectable, AreFreeRuns}
use Rattle.heap_model.specs.Remembered.{AreRemembered}
use Rattle.heap_moves.specs.Moved.{IsMoved}
use Rattle.heap_moves.specs.Standing.{Stays}
use Rattle.write_barrier.specs.MutatorState.{Mutator, heap_of}

-- the word at the address is one of a cell that is not free
pub record IsUsedWord (heap : Heap) (at : ℕ) : Type 0 where
  pub cell : Cell
  pub words : List ℕ
  pub has : HasCell heap cell words
  pub used : is_free_kind cell.layout.kind ≡ false
  pub from : cell.at ≤ at
  pub below : at < cell.at + cell.size

-- the address is in the page of another, and not after it
pub record IsInPageOf (at now : ℕ) : Type 0 where
  pub page : now / page_words ≡ at / page_words
  pub no_later : now ≤ at

-- A compaction moved what stood at an address to another. The heap is the old one moved. Each cell that is not free
-- stays, and each free one goes. A cell of a page stays in its page, comes to no later address, and keeps its place in
-- the order of cells. What is young stays in its place, and no young cell is new. Each page has a row of free runs.
-- Each run ends with its page, so a page has one at most, and is one free cell; together they have the words of pages
-- that are in no cell but free ones. Recorded are again the slots of pages that refer to young cells, if they were, and
-- a half that was empty is.
pub record Compacts (old new : Mutator) (to : ℕ → Option ℕ) : Type 0 where
  pub moved : IsMoved (heap_of old) (heap_of new) to
  pub stays : (cell : Cell) (words : List ℕ) → HasCell (heap_of old) cell words
      → is_free_kind cell.layout.kind ≡ false → Stays to cell.at
  pub goes : (cell : Cell) (words : List ℕ) → HasCell (heap_of old) cell words
      → IsTrue (is_free_kind cell.layout.kind) → to cell.at ≡ None
  pub in_page : (cell : Cell) (words : List ℕ) (now : ℕ) → HasCell (heap_of old) cell words
      → cell.at < eden_start old.seat.space → to cell.at ≡ Some now → IsInPageOf cell.at now
  pub in_order : (one other : Cell) (words others : List ℕ) (now then : ℕ) → HasCell (heap_of old) one words
      → HasCell (heap_of old) other others → one.at < other.at → to one.at ≡ Some now → to other.at ≡ Some then
      → now < then
  pub beside : (cell : Cell) (words : List ℕ) (now : ℕ) → HasCell (heap_of old) cell words
      → eden_start old.seat.space ≤ cell.at → to cell.at ≡ Some now → now ≡ cell.at
  pub young_cells : (cell : Cell) (words : List ℕ) → HasCell (heap_of new) cell words
      → eden_start old.seat.space ≤ cell.at → (were : List ℕ) × HasCell (heap_of old) cell were
  pub seat : RestStays old.seat new.seat
  pub paths : new.paths ≡ old.paths
  pub young : new.young ≡ old.young
  pub cycle : new.cycle ≡ old.cycle
  pub rows : length new.free ≡ old.seat.space.sizes.pages
  pub packed : (page : ℕ) (run : Run) → Contains (row_of new.free page) run
      → run.at + run.words ≡ page_words * (page + 1)
  pub free : AreFreeRuns (heap_of new) new.free
  pub apart : AreFree new.free
  pub filled : (at : ℕ) → at < eden_start old.seat.space
      → IsFreeWord new.free at ↔ (IsUsedWord (heap_of new) at → ⊥)
  pub bound : new.recorded.bound ≡ old.recorded.bound
  pub remembered : AreRemembered (heap_of old) old.recorded.slots
      → AreRemembered (heap_of new) new.recorded.slots
  pub collectable : (half : ℕ) → IsCollectable (heap_of old) half → IsCollectable (heap_of new) half

-- the cell stood in the heap, and comes to another address
pub record ComesElsewhere (heap : Heap) (to : ℕ → Option ℕ) (cell : Cell) : Type 0 where
  pub words : List ℕ
  pub has : HasCell heap cell words
  pub now : ℕ
  pub comes : to cell.at ≡ Some now
  pub elsewhere : now ≢ cell.at

-- So many cells come to another address: these, in the order of their addresses.
pub record CountsMoved (heap : Heap) (to : ℕ → Option ℕ) (count : ℕ) : Type 0 where
  pub cells : List Cell
  pub counted : length cells ≡ count
  pub ascend : AllPairs (λ one other. one.at < other.at) cells
  pub each : (cell : Cell) → Contains cells cell ↔ ComesElsewhere heap to cell

-- A compaction moved what stood in the heap somewhere, and so many cells came to another address.
pub record Compacted (old new : Mutator) (count : ℕ) : Type 0 where
  pub to : ℕ → Option ℕ
  pub compacts : Compacts old new to
  pub counts : CountsMoved (heap_of old) to count
