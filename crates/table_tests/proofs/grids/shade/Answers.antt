-- The cell is born, and a cell that is shaded stays one of those that pages are cut into.
use Rattle.std.proofs.Common.{◌*◌, Contains, subst, sym}
use Rattle.core_parts.proofs.Joining.{in_found, joined_in}
use Rattle.shared_table.specs.Colours.{number_of}
use Rattle.shared_table.specs.Seats.{Side}
use Rattle.table_tests.specs.Grids.{IsOpenGrid, IsWholeGrid}
use Rattle.table_tests.proofs.CellSteps.{shaded_grid, shaded_whole}
use Rattle.table_tests.proofs.grids.shade.Goals as goal

pub shade-requires-clause-may : goal.shade-requires-clause-may
shade-requires-clause-may c =
    in_found c.args.side.now.main.view.born (4 * c.args.cell) (c.requires.grid.born c.args.cell c.requires.among)

pub returns-clause-grid : goal.returns-clause-grid
returns-clause-grid c =
    subst (λ (side : Side). IsOpenGrid side.main c.args.count) (sym c.shade.ensures.shaded)
    (shaded_grid c.args.side.now.main c.args.count (4 * c.args.cell) (number_of c.shade.result) c.requires.grid)

pub returns-clause-whole : goal.returns-clause-whole
returns-clause-whole c = λ trimmed whole.
    subst (λ (side : Side). IsWholeGrid side.main c.args.count trimmed) (sym c.shade.ensures.shaded)
    (shaded_whole c.args.side.now.main c.args.count trimmed (4 * c.args.cell) (number_of c.shade.result) whole)

pub returns-clause-sure : goal.returns-clause-sure
returns-clause-sure c =
    subst (λ (side : Side). Contains side.main.view.sure (4 * c.args.cell)) (sym c.shade.ensures.shaded)
    (joined_in c.args.side.now.main.view.sure (4 * c.args.cell))
