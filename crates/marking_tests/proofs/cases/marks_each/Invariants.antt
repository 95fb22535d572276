-- The marking keeps its bound.
use Rattle.std.proofs.Common.{◌≡◌}
use Rattle.page_space.specs.Extents.{roots_start}
use Rattle.marking_tests.proofs.cases.marks_each.Given as goal

abbrev pub invariant-loop-case : goal.invariant-loop-case
invariant-loop-case g l = l.marking.bound ≡ roots_start l.main.seat.space
