use Rattle.std.proofs.Common.{◌-◌, ◌≤◌}
use Rattle.page_space.specs.Extents.{roots_start}
use Rattle.heap_model.specs.Images.{image_heap}
use Rattle.image_walk.specs.NextCell.{IsBoundary}
use Rattle.slow_check.proofs.remembered.cell_over.Given as goal

abbrev pub invariant-loop-cell : goal.invariant-loop-cell
invariant-loop-cell l = record {
  boundary : IsBoundary (image_heap l.image) l.at;
  behind : l.at ≤ l.address;
}

abbrev pub decreases-loop-cell : goal.decreases-loop-cell
decreases-loop-cell l = roots_start l.image.regions - l.at
