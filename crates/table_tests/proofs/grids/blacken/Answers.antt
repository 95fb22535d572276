-- The cell is born, and one that is made black stays one of those that pages are cut into.
use Rattle.std.proofs.Common.{◌+◌, ◌*◌, subst, sym}
use Rattle.core_parts.proofs.Joining.{in_found}
use Rattle.shared_table.specs.Colours.{number_of}
use Rattle.shared_table.specs.Seats.{Side}
use Rattle.table_tests.specs.Grids.{IsOpenGrid, IsWholeGrid}
use Rattle.table_tests.proofs.CellSteps.{black_grid, black_whole}
use Rattle.table_tests.proofs.grids.blacken.Goals as goal

pub blacken-requires-clause-may : goal.blacken-requires-clause-may
blacken-requires-clause-may c =
    in_found c.args.side.now.main.view.born (4 * c.args.cell) (c.requires.grid.born c.args.cell c.requires.among)

pub returns-clause-grid : goal.returns-clause-grid
returns-clause-grid c =
    subst (λ (side : Side). IsOpenGrid side.main c.args.count) (sym c.blacken.ensures.blackened)
    (black_grid c.args.side.now.main c.args.count (4 * c.args.cell) (number_of c.blacken.result) c.requires.grid)

pub returns-clause-trimmed : goal.returns-clause-trimmed
returns-clause-trimmed c = λ whole.
    subst (λ (side : Side). IsWholeGrid side.main c.args.count (c.args.cell + 1)) (sym c.blacken.ensures.blackened)
    (black_whole c.args.side.now.main c.args.count c.args.cell (number_of c.blacken.result) c.requires.among whole)
