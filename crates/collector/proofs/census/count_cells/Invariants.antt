-- The regions before an address are counted.
use Rattle.std.proofs.Common.{◌-◌}
use Rattle.page_space.specs.Extents.{words_count}
use Rattle.heap_model.proofs.RegionSeams.{IsSeam}
use Rattle.write_barrier.specs.MutatorState.{heap_of}
use Rattle.collector.specs.Passing.{CountsTo}
use Rattle.collector.proofs.census.count_cells.Given as goal

abbrev pub invariant-loop-end : goal.invariant-loop-end
invariant-loop-end l = record {
  seam : IsSeam l.main.seat.space l.at;
  counts : CountsTo (heap_of l.main) l.at l.census;
}

abbrev pub decreases-loop-end : goal.decreases-loop-end
decreases-loop-end l = words_count l.regions - l.at
