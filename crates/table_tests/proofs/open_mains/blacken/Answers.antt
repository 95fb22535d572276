-- The cell is one of the page or of eden.
use Rattle.std.proofs.Common.{arith}
use Rattle.table_tests.proofs.OpenMains.{before_marks}
use Rattle.table_tests.proofs.open_mains.blacken.Goals as goal

pub blacken-requires-clause-within : goal.blacken-requires-clause-within
blacken-requires-clause-within c =
    before_marks c.args.main.now.seat.space c.args.at c.requires.marking.space (omega (arith, c.requires.within))
