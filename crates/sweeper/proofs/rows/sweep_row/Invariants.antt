-- The sweep has gone along the row to the cell at hand.
use Rattle.std.proofs.Common.{◌-◌}
use Rattle.write_barrier.specs.MutatorState.{Mutator}
use Rattle.sweeper.specs.Sweeping.{InRow, MaySweep}
use Rattle.sweeper.proofs.rows.sweep_row.Given as goal

abbrev pub invariant-cells : goal.invariant-cells
invariant-cells l = record {
  in_row : (first : Mutator) → MaySweep first l.fn.main l.marked.addresses l.start l.end
      → InRow first l.main l.marked.addresses l.start l.end l.cells.limit l.from l.cells.at;
}

abbrev pub decreases-cells : goal.decreases-cells
decreases-cells l = l.cells.limit - l.cells.at
