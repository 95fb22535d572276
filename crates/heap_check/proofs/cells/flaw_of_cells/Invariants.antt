use Rattle.std.proofs.Common.{◌-◌}
use Rattle.page_space.specs.Extents.{roots_start}
use Rattle.heap_model.specs.Images.{image_heap}
use Rattle.image_walk.specs.NextCell.{IsBoundary}
use Rattle.heap_check.proofs.CellByCell.{SoundBefore}
use Rattle.heap_check.specs.Firsts.{IsVerdict}
use Rattle.heap_check.proofs.CellFlaws.{BreaksBefore}
use Rattle.heap_check.proofs.cells.flaw_of_cells.Given as goal

abbrev pub invariant-loop-cell : goal.invariant-loop-cell
invariant-loop-cell l = record {
  boundary : IsBoundary (image_heap l.image) l.at;
  finds : IsVerdict (SoundBefore (image_heap l.image) l.at) (BreaksBefore (image_heap l.image) l.at) l.least;
}

abbrev pub decreases-loop-cell : goal.decreases-loop-cell
decreases-loop-cell l = roots_start l.image.regions - l.at
