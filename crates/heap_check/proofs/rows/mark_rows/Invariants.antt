use Rattle.std.proofs.Common.{◌-◌, ◌≤◌}
use Rattle.page_space.specs.Extents.{words_count}
use Rattle.heap_model.specs.Images.{image_heap}
use Rattle.heap_check.proofs.MarkedRows.{MarkedTo}
use Rattle.heap_check.proofs.rows.mark_rows.Given as goal

abbrev pub invariant-loop-end : goal.invariant-loop-end
invariant-loop-end l = record {
  to : MarkedTo (image_heap l.image) l.at l.survivors l.fn.starts l.starts;
  few : l.survivors ≤ l.at;
}

abbrev pub decreases-loop-end : goal.decreases-loop-end
decreases-loop-end l = words_count l.image.regions - l.at
