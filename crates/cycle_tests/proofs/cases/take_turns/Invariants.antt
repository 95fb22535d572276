-- The heap is ready between two turns, and the cycle is open.
use Rattle.std.proofs.Common.{◌≡◌}
use Rattle.heap_table.specs.Phases.{Mark}
use Rattle.cycle_tests.specs.Ready.{IsReady}
use Rattle.cycle_tests.proofs.cases.take_turns.Given as goal

abbrev pub invariant-loop-number : goal.invariant-loop-number
invariant-loop-number g l = record {
  ready : IsReady l.main l.objects;
  mark : l.main.seat.phase ≡ Mark;
}
