-- A cycle with cells that were checked may begin.
use Rattle.std.proofs.Common.{List, ℕ, ap}
use Rattle.table_tests.specs.CellPages.{these_cells}
use Rattle.table_tests.proofs.BareCells.{cells_fresh}
use Rattle.table_tests.proofs.cells.open_with.Goals as goal

pub open_cycle-requires-clause-chosen : goal.open_cycle-requires-clause-chosen
open_cycle-requires-clause-chosen c =
    let starts : List ℕ = c.args.starts.now in (
      these_cells starts,
      ap these_cells c.requires.three,
      cells_fresh c.args.side.now.main starts c.requires.bare c.requires.cells,
    )
