-- So many words are put, and nothing else has changed.
use Rattle.std.proofs.Common.{◌≡◌}
use Rattle.table_tests.proofs.Filled.{with_words}
use Rattle.table_tests.proofs.cells.fill_words.Given as goal

abbrev pub invariant-loop-a : goal.invariant-loop-a
invariant-loop-a l = l.side ≡ with_words l.a l.words l.fn.side
