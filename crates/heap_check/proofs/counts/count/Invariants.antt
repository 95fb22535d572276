-- The cells before an address are counted.
use Rattle.std.proofs.Common.{◌-◌}
use Rattle.page_space.specs.Extents.{roots_start}
use Rattle.heap_model.specs.Images.{image_heap}
use Rattle.image_walk.specs.NextCell.{IsBoundary}
use Rattle.live_cells.specs.Counting.{CountsTo}
use Rattle.heap_check.proofs.counts.count.Given as goal

abbrev pub invariant-loop-cell : goal.invariant-loop-cell
invariant-loop-cell l = record {
  boundary : IsBoundary (image_heap l.image) l.at;
  counts : CountsTo (image_heap l.image) l.at l.counts.objects l.counts.entries;
}

abbrev pub decreases-loop-cell : goal.decreases-loop-cell
decreases-loop-cell l = roots_start l.image.regions - l.at
