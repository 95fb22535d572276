use Rattle.std.proofs.Common.{◌-◌}
use Rattle.page_space.specs.Extents.{roots_start}
use Rattle.heap_model.specs.Images.{image_heap}
use Rattle.image_walk.specs.NextCell.{IsBoundary}
use Rattle.image_walk.proofs.FirstCells.{NoneFrom}
use Rattle.image_walk.proofs.finding.first_from.Given as goal

abbrev pub invariant-loop-cell : goal.invariant-loop-cell
invariant-loop-cell l = record {
  boundary : IsBoundary (image_heap l.image) l.at;
  none : NoneFrom (image_heap l.image) l.least l.at;
}

abbrev pub decreases-loop-cell : goal.decreases-loop-cell
decreases-loop-cell l = roots_start l.image.regions - l.at
