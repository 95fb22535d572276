-- The free runs that a sweep leaves, by the heap before it.
use Rattle.std.specs.Prelude.{ℕ, ◌<◌, ◌↔◌, List}
use Rattle.page_space.specs.Extents.{eden_start}
use Rattle.free_runs.specs.FreeRuns.{AreFree}
use Rattle.free_runs.specs.Laws.{IsFreeWord}
use Rattle.heap_model.specs.Types.{Run}
use Rattle.heap_model.specs.Heaps.{Heap}
use Rattle.live_cells.specs.Live.{IsLive, IsRootTarget}
use Rattle.collector.specs.Images.{IsOfSomeCell}

-- A sweep of the heap leaves these runs: together they have the words of pages that no live cell has, and they neither
-- overlap nor touch.
pub record AreSwept (heap : Heap) (rows : List (List Run)) : Type 0 where
  pub words : (at : ℕ) → at < eden_start heap.space
      → IsFreeWord rows at ↔ (IsOfSomeCell heap (λ cell. IsLive heap (IsRootTarget heap) cell.at) at → ⊥)
  pub apart : AreFree rows
