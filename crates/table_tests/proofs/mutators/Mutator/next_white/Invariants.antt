-- The seat stays at its table, with as many seats out.
use Rattle.table_tests.specs.Grids.{StaysLent}
use Rattle.table_tests.proofs.mutators.Mutator.next_white.Given as goal

abbrev pub invariant-loop-one : goal.invariant-loop-one
invariant-loop-one l = StaysLent l.fn.self.side l.self.side
