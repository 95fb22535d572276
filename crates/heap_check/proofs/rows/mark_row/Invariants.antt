use Rattle.std.proofs.Common.{◌-◌, ◌≤◌}
use Rattle.heap_model.specs.Images.{image_heap}
use Rattle.heap_check.proofs.BrokenWalks.{MarkedRow}
use Rattle.heap_check.proofs.rows.mark_row.Given as goal

abbrev pub invariant-walk : goal.invariant-walk
invariant-walk l = record {
  within : l.at ≤ l.bound.limit;
  marked : MarkedRow (image_heap l.image) l.from l.at l.fn.starts l.starts;
}

abbrev pub decreases-walk : goal.decreases-walk
decreases-walk l = l.bound.limit - l.at
