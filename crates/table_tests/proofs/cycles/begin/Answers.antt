-- A cycle with no cell may begin.
use Rattle.std.proofs.Common.{refl}
use Rattle.table_tests.specs.OneCell.{no_cells}
use Rattle.table_tests.proofs.Bare.{begun_fresh}
use Rattle.table_tests.proofs.cycles.begin.Goals as goal

pub open_cycle-requires-clause-chosen : goal.open_cycle-requires-clause-chosen
open_cycle-requires-clause-chosen c = (no_cells, refl, begun_fresh c.args.side.now.main c.requires.bare)
