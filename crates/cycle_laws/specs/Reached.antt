-- What an open cycle keeps of what can be reached.
use Rattle.std.specs.Prelude.{ℕ, List, Contains, IsTrue}
use Rattle.object_graph.specs.Graphs.{Graph}
use Rattle.object_graph.specs.Reach.{is_marked, reach}
use Rattle.heap_model.specs.Heaps.{Heap}
use Rattle.heap_model.specs.Slots.{IsPlace}
use Rattle.heap_model.specs.Showing.{Shows}
use Rattle.live_cells.specs.Live.{IsLive, IsStart}
use Rattle.mark_world.specs.Cycles.{Cycle}
use Rattle.cycle_state.specs.Keeping.{IsKept, KeepsClosed}

-- each object that can be reached is kept
abbrev pub ReachedIsKept : Type 0
ReachedIsKept =
    (heap : Heap) (graph : Graph) (cycle : Cycle) (number at : ℕ) → Shows heap graph → KeepsClosed heap cycle
    → IsTrue (is_marked (reach graph) number) → IsPlace heap number at → IsKept heap cycle.born at

-- So is each cell that is live from what root words refer to and from kept cells: the last marking of a cycle, which
-- starts at coloured cells and at young ones, no tables and no free cells among them, marks nothing else.
abbrev pub LiveIsKept : Type 0
LiveIsKept =
    (heap : Heap) (cycle : Cycle) (given : List ℕ) (at : ℕ) → KeepsClosed heap cycle
    → ((start : ℕ) → Contains given start → IsKept heap cycle.born start)
    → IsLive heap (IsStart heap given) at → IsKept heap cycle.born at
