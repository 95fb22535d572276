-- Which heaps may be lent to workers.
use Rattle.std.specs.Prelude.{ℕ}
use Rattle.object_graph.specs.Graphs.{Graph}
use Rattle.page_space.specs.RegionLaws.{IsSpace}
use Rattle.nursery.specs.Young.{IsYoung}
use Rattle.free_runs.specs.FreeRuns.{AreFree}
use Rattle.shared_table.specs.Owned.{Own}
use Rattle.heap_model.specs.Heaps.{Heap}
use Rattle.write_barrier.specs.MutatorState.{Mutator, MainShows, heap_of}
use Rattle.scav_copy.specs.Places.{Fixed}
use Rattle.scavenger.specs.Starts.{Start, IsBegun}
use Rattle.eden_copies.specs.Eden.{MayCopy, deal_of}

-- the words of a heap, as they are lent
abbrev pub lent : Heap → Own
lent heap = record { space = heap.space; words = heap.words }

-- where a scavenge has begun, its workers may copy
abbrev pub BegunMayBeLent : Type 0
BegunMayBeLent =
    (start : Start) (fixed : Fixed) (first every : ℕ) → IsBegun start fixed
    → MayCopy (lent start.heap) (deal_of start.recorded first every)

-- so they may where the heap shows a graph
abbrev pub ShownHeapsMayBeLent : Type 0
ShownHeapsMayBeLent =
    (main : Mutator) (graph : Graph) (first every : ℕ) → IsSpace main.seat.space → MainShows main graph
    → IsYoung main.young → AreFree main.free → MayCopy (lent (heap_of main)) (deal_of main.recorded.slots first every)
