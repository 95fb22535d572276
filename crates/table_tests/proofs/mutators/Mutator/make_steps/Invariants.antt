-- The seat stays at its table, with as many seats out.
use Rattle.table_tests.specs.Grids.{StaysLent}
use Rattle.table_tests.proofs.mutators.Mutator.make_steps.Given as goal

abbrev pub invariant-loop-step : goal.invariant-loop-step
invariant-loop-step l = StaysLent l.fn.self.side l.self.side
