-- The walk has come along the row to the cell at hand.
use Rattle.std.proofs.Common.{◌≤◌, ◌-◌}
use Rattle.write_barrier.specs.MutatorState.{heap_of}
use Rattle.heap_walk.proofs.RowWalks.{Walking}
use Rattle.marking_tests.proofs.found_cells.find_between.Given as goal

abbrev pub invariant-cells : goal.invariant-cells
invariant-cells l = record {
  walking : Walking (heap_of l.main) l.start l.end l.cells.limit l.cells.at;
  within : l.cells.limit ≤ l.end;
}

abbrev pub decreases-cells : goal.decreases-cells
decreases-cells l = l.cells.limit - l.cells.at
