-- The heap is ready between two commands.
use Rattle.cycle_tests.specs.Ready.{IsReady}
use Rattle.cycle_tests.proofs.cases.read_back.Given as goal

abbrev pub invariant-loop-number : goal.invariant-loop-number
invariant-loop-number g l = IsReady l.main l.objects
