use Rattle.std.proofs.Common.{◌-◌}
use Rattle.page_space.specs.Extents.{words_count}
use Rattle.write_barrier.specs.MutatorState.{heap_of}
use Rattle.collector.specs.Filling.{FillsWithin}
use Rattle.heap_model.proofs.RegionSeams.{IsSeam}
use Rattle.collector.proofs.filling.fill_cells.Given as goal

abbrev pub invariant-loop-end : goal.invariant-loop-end
invariant-loop-end l = record {
  seam : IsSeam l.fn.main.seat.space l.at;
  fills : FillsWithin (heap_of l.fn.main) l.fn.words l.words 0 l.at;
}

abbrev pub decreases-loop-end : goal.decreases-loop-end
decreases-loop-end l = words_count l.regions - l.at
