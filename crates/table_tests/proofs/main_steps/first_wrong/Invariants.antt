-- The cycle is open after each step.
use Rattle.table_tests.specs.OpenMains.{IsMarkingMain}
use Rattle.table_tests.proofs.main_steps.first_wrong.Given as goal

abbrev pub invariant-loop-number : goal.invariant-loop-number
invariant-loop-number l = IsMarkingMain l.main
