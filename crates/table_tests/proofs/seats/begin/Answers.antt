-- A cycle with no cell may begin.
use Rattle.std.proofs.Common.{refl}
use Rattle.heap_table.specs.Overviews.{overview}
use Rattle.table_tests.specs.OneCell.{no_cells}
use Rattle.table_tests.proofs.Bare.{begun_fresh}
use Rattle.table_tests.proofs.seats.begin.Goals as goal

pub open_cycle-requires-clause-chosen : goal.open_cycle-requires-clause-chosen
open_cycle-requires-clause-chosen c =
    (no_cells, refl, begun_fresh (overview c.args.seat.now) c.requires.bare.bare)
