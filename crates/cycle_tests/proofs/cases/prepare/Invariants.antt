-- The heap is ready between two commands.
use Rattle.std.proofs.Common.{◌≡◌}
use Rattle.heap_table.specs.Phases.{Quiet}
use Rattle.cycle_tests.specs.Ready.{IsReady}
use Rattle.cycle_tests.proofs.cases.prepare.Given as goal

abbrev pub invariant-loop-number : goal.invariant-loop-number
invariant-loop-number g l = record {
  ready : IsReady l.main l.objects;
  quiet : l.main.seat.phase ≡ Quiet;
}
