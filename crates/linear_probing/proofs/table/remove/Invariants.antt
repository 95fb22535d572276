use Rattle.linear_probing.proofs.Removals.{IsRemoval, left}
use Rattle.linear_probing.proofs.table.remove.Given as goal

abbrev pub invariant-loop-passed : goal.invariant-loop-passed
invariant-loop-passed l = IsRemoval l.fn.table l.fn.at l.table l.hole l.passed

abbrev pub decreases-loop-passed : goal.decreases-loop-passed
decreases-loop-passed l = left l.table l.hole l.passed
