use Rattle.std.proofs.Common.{◌-◌}
use Rattle.page_space.specs.Extents.{roots_start}
use Rattle.heap_model.specs.Images.{image_heap}
use Rattle.heap_moves.specs.Moved.{IsFrom}
use Rattle.image_walk.specs.NextCell.{IsBoundary}
use Rattle.slow_check.specs.Moves.{to_of}
use Rattle.slow_check.proofs.EachCell.{EachBefore}
use Rattle.slow_check.proofs.moved_cells.are_from.Given as goal

abbrev pub invariant-loop-cell : goal.invariant-loop-cell
invariant-loop-cell l = record {
  boundary : IsBoundary (image_heap l.new) l.at;
  each : EachBefore (image_heap l.new) (IsFrom (image_heap l.old) (to_of l.moves)) l.at;
}

abbrev pub decreases-loop-cell : goal.decreases-loop-cell
decreases-loop-cell l = roots_start l.new.regions - l.at
