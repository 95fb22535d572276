-- A filler that is made in a cell that was trimmed leaves the others.
use Rattle.std.proofs.Common.{◌+◌, ◌*◌, subst, sym, arith}
use Rattle.shared_table.specs.Seats.{Side}
use Rattle.table_tests.specs.Grids.{IsWholeGrid}
use Rattle.table_tests.proofs.CellSteps.{made_whole}
use Rattle.table_tests.proofs.grids.trim.Goals as goal

pub store_own-requires-clause-whole : goal.store_own-requires-clause-whole
store_own-requires-clause-whole c =
    subst (λ (side : Side). IsWholeGrid side.main c.args.count (c.args.cell + 1)) (sym c.new_black.ensures.made)
    (made_whole c.args.side.now.main c.args.count (c.args.cell + 1) (4 * c.args.cell + 3) (omega arith) (omega arith)
    c.requires.whole)
