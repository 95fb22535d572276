-- What marking, clearing and sweeping come to, as one call.
use Rattle.std.specs.Prelude.{◌≡◌, ◌≢◌, ◌+◌, ◌<◌, ◌↔◌, ℕ, false, List, AllPairs, Contains, length, slice_get}
use Rattle.tagged_word.specs.declared.layout.Kind.TheVariants as kind
use Rattle.tagged_word.specs.Cells.{is_free_kind}
use Rattle.page_space.specs.Extents.{eden_start}
use Rattle.free_runs.specs.FreeRuns.{AreFree}
use Rattle.free_runs.specs.Laws.{IsFreeWord}
use Rattle.nursery.specs.Young.{no_run, with_granted}
use Rattle.object_graph.specs.Graphs.{Graph}
use Rattle.write_barrier.specs.Seats.{RestStays, heap_words}
use Rattle.heap_model.specs.Types.{Cell}
use Rattle.heap_model.specs.Heaps.{Heap, HasCell}
use Rattle.heap_model.specs.Kinds.{Pair, count_offset}
use Rattle.heap_model.specs.Rooms.{RoomsAreNoFuller}
use Rattle.heap_model.specs.Slots.{IsWeakCellAt}
use Rattle.live_cells.specs.Exact.{KeepsNoOther, IsNamedByObject}
use Rattle.live_cells.specs.Fitting.{DeadIsFree}
use Rattle.live_cells.specs.Live.{IsLive, IsRootTarget, IsStart, AreNoTables, AreLiveFrom}
use Rattle.write_barrier.specs.MutatorState.{Mutator, heap_of, MainShows}
use Rattle.write_barrier.specs.Recording.{Touches, untouched}
use Rattle.weak_pairs.specs.Pairs.{HasPairsAt}
use Rattle.ephemeron_table.specs.Pairs.{IsNoPairWord}
use Rattle.ephemeron_clear.specs.Marked.{AreKeysMarked, HasLeft}
use Rattle.ephemeron_mark.specs.Marked.{Marked, IsLiveFrom}
use Rattle.sweeper.specs.Swept.{IsOfMarked, IsCellWord}
use Rattle.collector.specs.Born.{FreeIsRun}
use Rattle.collector.specs.SweptRuns.{AreSwept}

-- Nothing is granted any more, and nothing was written or recorded.
pub record Ungrants (old new : Mutator) : Type 0 where
  pub young : new.young ≡ with_granted old.young no_run
  pub words : heap_words new.seat ≡ heap_words old.seat
  pub beside : RestStays old.seat new.seat
  pub paths : new.paths ≡ old.paths
  pub cycle : new.cycle ≡ old.cycle
  pub touches : Touches old new untouched

-- Each live cell stands where it stood, be it an object's, a store, a table or a box. Its words may have changed.
abbrev pub LiveCellsStay : Heap → Heap → Type 0
LiveCellsStay old new =
    (cell : Cell) (words : List ℕ) → HasCell old cell words → IsLive old (IsRootTarget old) cell.at
    → (others : List ℕ) × HasCell new cell others

-- The live cells of a heap that shows a graph are kept where they stand, pairs of weak maps with dead keys are taken
-- out, and all else is free.
pub record MarkSweeps (old new : Mutator) (graph : Graph) : Type 0 where
  -- the heap shows the graph, and its parts agree
  pub shows : MainShows new graph
  -- each object that stands can be reached, and each store, table and box is one's
  pub keeps : KeepsNoOther (heap_of new) graph
  -- each other word of a page is in a free run; these have just the words that no live cell had, in a row for each page
  pub dead : DeadIsFree (heap_of new) new.free
  pub swept : AreSwept (heap_of old) new.free
  pub rows : length new.free ≡ new.seat.space.sizes.pages
  -- live cells stand where they stood
  pub cells : LiveCellsStay (heap_of old) (heap_of new)
  -- objects have the capacity that they had, and no more of it filled
  pub rooms : RoomsAreNoFuller (heap_of old) (heap_of new) graph
  -- regions, phase, field paths and what is known of a cycle are the same
  pub seat : RestStays old.seat new.seat
  pub paths : new.paths ≡ old.paths
  pub cycle : new.cycle ≡ old.cycle
  -- as much of eden is used, and as much has survived; but nothing is granted any more
  pub young : new.young ≡ with_granted old.young no_run

-- A marking of the heap was given these cells to start at: exactly what is live from them and from variables is marked,
-- and exactly the weak maps among that are listed. None of the given cells is a weak table: clearing goes by maps, so a
-- table that its map has outgrown would keep dead keys. And none of those in pages is free: it would be in no free run.
pub record IsMarkedFrom (heap : Heap) (given : List ℕ) (marking : Marked) : Type 0 where
  pub tables : AreNoTables heap (Contains given)
  pub used : (cell : Cell) (words : List ℕ) → HasCell heap cell words → Contains given cell.at
      → cell.at < eden_start heap.space → is_free_kind cell.layout.kind ≡ false
  pub live : AreLiveFrom heap (IsStart heap given) marking.cells
  pub maps : (at : ℕ) → Contains marking.maps at ↔ (IsLiveFrom heap given at × IsWeakCellAt heap at)
  pub once : AllPairs (λ map other. map ≢ other) marking.maps

-- each marked cell stands where it stood; which of its words may have changed is said apart
abbrev pub MarkedCellsStay : Heap → Heap → List ℕ → Type 0
MarkedCellsStay old new marked =
    (cell : Cell) (words : List ℕ) → HasCell old cell words → Contains marked cell.at
    → (others : List ℕ) × HasCell new cell others

-- each marked cell that is neither a weak map nor a weak table has the words that it had
abbrev pub MarkedWordsStay : Heap → Heap → List ℕ → Type 0
MarkedWordsStay old new marked =
    (cell : Cell) (words : List ℕ) → HasCell old cell words → Contains marked cell.at
    → cell.layout.kind ≢ kind.Weak → cell.layout.kind ≢ kind.Table → HasCell new cell words

-- each marked weak table that no object names in the end has the words that it had
abbrev pub MarkedTablesStay : Heap → Heap → List ℕ → Type 0
MarkedTablesStay old new marked =
    (cell : Cell) (words : List ℕ) → HasCell old cell words → Contains marked cell.at
    → cell.layout.kind ≡ kind.Table → (IsNamedByObject new cell.at → ⊥) → HasCell new cell words

-- the word is neither the count of a marked weak map nor a word of a pair of its table
abbrev pub IsBesideMarkedMaps : Heap → List ℕ → ℕ → Type 0
IsBesideMarkedMaps heap marked word =
    (map : ℕ) → Contains marked map → IsWeakCellAt heap map
    → (word ≢ map + count_offset) × IsNoPairWord heap map word

-- Of the pairs that the weak map had those are left whose keys are marked, and no other.
pub record LeavesMarkedPairs (heap : Heap) (map : ℕ) (marked : List ℕ) (before : List Pair) : Type 0 where
  pub has : HasLeft heap map marked before
  pub keys : AreKeysMarked marked has.after

-- the cell stood there, and was marked
pub record WasMarked (old : Heap) (marked : List ℕ) (cell : Cell) : Type 0 where
  pub words : List ℕ
  pub had : HasCell old cell words
  pub among : Contains marked cell.at

-- The marked cells of a heap that shows a graph are kept where they stand, pairs of marked weak maps with keys that are
-- not marked are taken out, and all else is free.
pub record SweepsMarked (old new : Mutator) (marked : List ℕ) (graph : Graph) : Type 0 where
  -- the heap shows the graph, and its parts agree
  pub shows : MainShows new graph
  -- marked cells stand where they stood, the live ones among them; and each cell that is not free is one of them
  pub cells : MarkedCellsStay (heap_of old) (heap_of new) marked
  pub live : (at : ℕ) → IsLive (heap_of old) (IsRootTarget (heap_of old)) at → Contains marked at
  pub used : (cell : Cell) (words : List ℕ) → HasCell (heap_of new) cell words → is_free_kind cell.layout.kind ≡ false
      → WasMarked (heap_of old) marked cell
  -- each word of a cell was one of a cell
  pub of_cells : (at : ℕ) → IsCellWord (heap_of new) at → IsCellWord (heap_of old) at
  -- each word of a marked cell is as it was, but the counts of marked weak maps and the pairs of their tables; of these
  -- pairs just those are left whose keys are marked
  pub words : (at : ℕ) → IsOfMarked (heap_of old) marked at → IsBesideMarkedMaps (heap_of old) marked at
      → slice_get (heap_words new.seat) at ≡ slice_get (heap_words old.seat) at
  pub pairs : (map : ℕ) (before : List Pair) → Contains marked map → HasPairsAt (heap_of old) map before
      → LeavesMarkedPairs (heap_of new) map marked before
  -- so a marked cell that is neither a weak map nor a weak table has the words that it had
  pub others : MarkedWordsStay (heap_of old) (heap_of new) marked
  -- and so has a marked weak table that no object names
  pub tables : MarkedTablesStay (heap_of old) (heap_of new) marked
  -- free runs have just the words of pages that no marked cell had, in a row for each page; so they have the words of
  -- free cells of pages
  pub swept : (at : ℕ) → at < eden_start old.seat.space
      → IsFreeWord new.free at ↔ (IsOfMarked (heap_of old) marked at → ⊥)
  pub apart : AreFree new.free
  pub filled : FreeIsRun (heap_of new) new.free
  pub rows : length new.free ≡ new.seat.space.sizes.pages
  -- objects have the capacity that they had, and no more of it filled
  pub rooms : RoomsAreNoFuller (heap_of old) (heap_of new) graph
  -- regions, phase, field paths and what is known of a cycle are the same
  pub seat : RestStays old.seat new.seat
  pub paths : new.paths ≡ old.paths
  pub cycle : new.cycle ≡ old.cycle
  -- as much of eden is used, and as much has survived; but nothing is granted any more
  pub young : new.young ≡ with_granted old.young no_run
