-- A cycle with the two cells may begin.
use Rattle.std.proofs.Common.{refl}
use Rattle.table_tests.specs.TwoCells.{two_cells}
use Rattle.table_tests.proofs.Paired.{paired_fresh}
use Rattle.table_tests.proofs.visits.begin.Goals as goal

pub open_cycle-requires-clause-chosen : goal.open_cycle-requires-clause-chosen
open_cycle-requires-clause-chosen c = (two_cells, refl, paired_fresh c.args.side.now.main c.requires)
