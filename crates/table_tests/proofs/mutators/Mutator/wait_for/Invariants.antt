-- The seat stays at its table, with as many seats out.
use Rattle.table_tests.specs.Grids.{StaysLent}
use Rattle.table_tests.proofs.mutators.Mutator.wait_for.Given as goal

abbrev pub invariant-loop-look : goal.invariant-loop-look
invariant-loop-look l = StaysLent l.fn.self.side l.self.side
