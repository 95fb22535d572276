-- The slots of the cells before the one at hand are moved.
use Rattle.std.proofs.Common.{◌-◌}
use Rattle.write_barrier.specs.MutatorState.{Mutator}
use Rattle.compactor.specs.Young.{InYoung, MayMove}
use Rattle.compactor.proofs.beside.move_row.Given as goal

abbrev pub invariant-cells : goal.invariant-cells
invariant-cells l = record {
  in_row : (first was : Mutator) → MayMove first was l.fn.main l.moves l.start l.end
      → InYoung first was l.main l.moves l.start l.end l.cells.limit l.cells.at;
}

abbrev pub decreases-cells : goal.decreases-cells
decreases-cells l = l.cells.limit - l.cells.at
