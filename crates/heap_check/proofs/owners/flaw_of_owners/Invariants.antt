-- The slots before an address have been looked at.
use Rattle.std.proofs.Common.{◌≡◌, ◌-◌, length}
use Rattle.page_space.specs.Extents.{roots_start}
use Rattle.heap_model.specs.Images.{image_heap}
use Rattle.image_walk.specs.NextCell.{IsBoundary}
use Rattle.heap_check.specs.Names.{NamesBelow}
use Rattle.heap_check.proofs.owners.flaw_of_owners.Given as goal

abbrev pub invariant-loop-cell : goal.invariant-loop-cell
invariant-loop-cell l = record {
  boundary : IsBoundary (image_heap l.image) l.at;
  names : NamesBelow (image_heap l.image) l.at l.named;
  as_many : length l.named ≡ length l.initial.named;
}

abbrev pub decreases-loop-cell : goal.decreases-loop-cell
decreases-loop-cell l = roots_start l.image.regions - l.at
