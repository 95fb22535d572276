-- The walk has come to the cell at hand.
use Rattle.std.proofs.Common.{◌≤◌, ◌-◌}
use Rattle.write_barrier.specs.MutatorState.{heap_of}
use Rattle.heap_walk.proofs.RowWalks.{Walking}
use Rattle.heap_walk.proofs.rows.row_end.Given as goal

abbrev pub invariant-loop : goal.invariant-loop
invariant-loop l = record {
  walking : Walking (heap_of l.main) l.start l.end l.cells.limit l.cells.at;
  within : l.cells.limit ≤ l.end;
}

abbrev pub decreases-loop : goal.decreases-loop
decreases-loop l = l.cells.limit - l.cells.at
