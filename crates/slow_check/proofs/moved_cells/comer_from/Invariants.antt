use Rattle.std.proofs.Common.{◌≡◌, ◌-◌, ◌≤◌, Some}
use Rattle.page_space.specs.Extents.{roots_start}
use Rattle.heap_model.specs.Images.{image_heap}
use Rattle.image_walk.specs.NextCell.{IsBoundary}
use Rattle.slow_check.specs.Moves.{to_of}
use Rattle.slow_check.proofs.EachCell.{EachBefore}
use Rattle.slow_check.proofs.moved_cells.comer_from.Given as goal

abbrev pub invariant-loop-cell : goal.invariant-loop-cell
invariant-loop-cell l = record {
  boundary : IsBoundary (image_heap l.image) l.at;
  behind : l.from ≤ l.at;
  none : EachBefore (image_heap l.image) (λ cell. l.from ≤ cell.at → to_of l.moves cell.at ≡ Some l.now → ⊥) l.at;
}

abbrev pub decreases-loop-cell : goal.decreases-loop-cell
decreases-loop-cell l = roots_start l.image.regions - l.at
