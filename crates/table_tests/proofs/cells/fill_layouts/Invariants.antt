-- So many words are put, and nothing else has changed.
use Rattle.std.proofs.Common.{◌≡◌}
use Rattle.table_tests.proofs.Filled.{with_layouts}
use Rattle.table_tests.proofs.cells.fill_layouts.Given as goal

abbrev pub invariant-loop-shape : goal.invariant-loop-shape
invariant-loop-shape l = l.side ≡ with_layouts l.shape l.layouts l.fn.side
