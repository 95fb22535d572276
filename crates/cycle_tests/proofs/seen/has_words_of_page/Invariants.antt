-- The seat stays as it was.
use Rattle.std.proofs.Common.{◌≡◌}
use Rattle.cycle_tests.proofs.seen.has_words_of_page.Given as goal

abbrev pub invariant-loop-at : goal.invariant-loop-at
invariant-loop-at g l = l.seat ≡ l.initial.seat
