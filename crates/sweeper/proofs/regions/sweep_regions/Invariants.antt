-- The regions before an address are swept.
use Rattle.std.proofs.Common.{◌-◌}
use Rattle.page_space.specs.Extents.{words_count}
use Rattle.heap_model.proofs.RegionSeams.{IsSeam}
use Rattle.write_barrier.specs.MutatorState.{Mutator}
use Rattle.sweeper.specs.Sweeping.{IsBegun, Sweeping}
use Rattle.sweeper.proofs.regions.sweep_regions.Given as goal

abbrev pub invariant-loop-end : goal.invariant-loop-end
invariant-loop-end l = record {
  seam : IsSeam l.fn.main.seat.space l.at;
  sweeping : (first : Mutator) → IsBegun first → Sweeping first l.fn.main l.marked.addresses 0
      → Sweeping first l.main l.marked.addresses l.at;
}

abbrev pub decreases-loop-end : goal.decreases-loop-end
decreases-loop-end l = words_count l.regions - l.at
