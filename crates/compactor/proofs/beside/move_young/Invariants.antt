-- The young regions before an address are done.
use Rattle.std.proofs.Common.{◌-◌, ◌≤◌}
use Rattle.page_space.specs.Extents.{eden_start, words_count}
use Rattle.heap_model.proofs.RegionSeams.{IsSeam}
use Rattle.write_barrier.specs.MutatorState.{Mutator}
use Rattle.compactor.specs.Sliding.{IsBegun, Slid}
use Rattle.compactor.specs.Young.{YoungMoved}
use Rattle.compactor.proofs.beside.move_young.Given as goal

abbrev pub invariant-loop-end : goal.invariant-loop-end
invariant-loop-end l = record {
  seam : IsSeam l.fn.main.seat.space l.at;
  from : eden_start l.fn.main.seat.space ≤ l.at;
  moved : (first : Mutator) → IsBegun first → Slid first l.fn.main l.moves first.seat.space.sizes.pages
      → YoungMoved first l.fn.main l.main l.moves l.at;
}

abbrev pub decreases-loop-end : goal.decreases-loop-end
decreases-loop-end l = words_count l.regions - l.at
