-- The phase stays quiet.
use Rattle.std.proofs.Common.{◌≡◌}
use Rattle.heap_table.specs.Phases.{Quiet}
use Rattle.heap_tests.proofs.opened_heaps.carry_out_each.Given as goal

abbrev pub invariant-loop-turn : goal.invariant-loop-turn
invariant-loop-turn g l = l.main.seat.phase ≡ Quiet
