-- What a full collection leaves.
use Rattle.std.specs.Prelude.{◌≡◌, ℕ, ◌+◌, ◌<◌, ◌≤◌, true, List, length}
use Rattle.page_space.specs.Extents.{eden_start}
use Rattle.nursery.specs.Young.{in_eden}
use Rattle.free_runs.specs.FreeRuns.{AreFree}
use Rattle.object_graph.specs.Graphs.{Graph}
use Rattle.write_barrier.specs.Seats.{RestStays}
use Rattle.heap_model.specs.Types.{Cell, Run}
use Rattle.heap_model.specs.Heaps.{Heap, HasCell}
use Rattle.heap_model.specs.Collectable.{AreFreeRuns}
use Rattle.heap_model.specs.Reaching.{IsTight}
use Rattle.heap_model.specs.Rooms.{RoomsAreNoFuller}
use Rattle.live_cells.specs.Exact.{Exact}
use Rattle.live_cells.specs.Fitting.{DeadIsFree}
use Rattle.live_cells.specs.Live.{IsLive, IsRootTarget}
use Rattle.write_barrier.specs.MutatorState.{Mutator, heap_of, MainShows}
use Rattle.scavenger.specs.Backs.{AreBacks}
use Rattle.scavenger.specs.Laws.{IsStuck}
use Rattle.collector.specs.SweptRuns.{AreSwept}

-- What a full collection leaves of a heap that shows a graph, and whose pages have these free runs then.
pub record LeavesExact (old new : Heap) (rows : List (List Run)) (graph : Graph) : Type 0 where
  pub space : new.space ≡ old.space
  -- it shows the graph, and keeps exactly what can be reached
  pub exact : Exact new graph
  -- each other word of a page is in a free run; these are single free cells that neither overlap nor touch
  pub dead : DeadIsFree new rows
  pub free : AreFreeRuns new rows
  pub apart : AreFree rows
  -- each of them is the back of one that the sweep left: cells that were promoted took the fronts
  pub swept : List (List Run)
  pub swept_are : AreSwept old swept
  pub backs : AreBacks swept rows
  -- each live cell of a page stands where it stood
  pub places : (cell : Cell) (words : List ℕ) → HasCell old cell words → cell.at < eden_start old.space
      → IsLive old (IsRootTarget old) cell.at → (others : List ℕ) × HasCell new cell others
  -- objects have stores of as many slots and tables of as many pairs, of which no more are filled
  pub rooms : RoomsAreNoFuller old new graph
  -- eden is empty, and what is young, though all was to be promoted, is longer than each free run
  pub emptied : new.used ≡ 0
  pub stuck : IsStuck new rows
  pub tight : IsTight new
  pub few : new.survivors ≤ old.survivors + old.used

-- The mutator after a full collection of a heap that shows a graph. The heap is such as a full collection leaves, and
-- the graph is shown. Regions, phase, field paths, the number of words, that of rows of free runs, and what is known of
-- a cycle are the same. Nothing is granted.
pub record CollectsAll (old new : Mutator) (graph : Graph) : Type 0 where
  pub leaves : LeavesExact (heap_of old) (heap_of new) new.free graph
  pub shows : MainShows new graph
  pub seat : RestStays old.seat new.seat
  pub paths : new.paths ≡ old.paths
  pub cycle : new.cycle ≡ old.cycle
  pub rows : length new.free ≡ length old.free
  pub ungranted : in_eden new.young ≡ true
