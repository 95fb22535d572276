-- The seat stays as it was.
use Rattle.std.proofs.Common.{◌≡◌}
use Rattle.cycle_tests.proofs.seen.has_colours.Given as goal

abbrev pub invariant-loop-number : goal.invariant-loop-number
invariant-loop-number g l = l.seat ≡ l.initial.seat
