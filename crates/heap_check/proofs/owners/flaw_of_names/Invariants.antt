-- The slots of the cell before an offset have been looked at.
use Rattle.std.proofs.Common.{◌≡◌, ◌+◌, ◌-◌, ◌≤◌, length}
use Rattle.heap_model.specs.Images.{image_heap}
use Rattle.heap_check.specs.Names.{NamesBelow}
use Rattle.heap_check.proofs.owners.flaw_of_names.Given as goal

abbrev pub invariant-loop-offset : goal.invariant-loop-offset
invariant-loop-offset l = record {
  names : NamesBelow (image_heap l.image) (l.cell.at + l.from) l.named;
  within : l.from ≤ l.cell.size;
  as_many : length l.named ≡ length l.initial.named;
}

abbrev pub decreases-loop-offset : goal.decreases-loop-offset
decreases-loop-offset l = l.cell.size - l.from
