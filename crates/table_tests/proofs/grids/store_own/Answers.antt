-- A word of a cell that was trimmed leaves the others.
use Rattle.std.proofs.Common.{subst, sym}
use Rattle.shared_table.specs.Seats.{Side}
use Rattle.table_tests.specs.Grids.{IsWholeGrid}
use Rattle.table_tests.proofs.CellSteps.{owned_whole}
use Rattle.table_tests.proofs.grids.store_own.Goals as goal

pub returns-clause-whole : goal.returns-clause-whole
returns-clause-whole c =
    subst (λ (side : Side). IsWholeGrid side.main c.args.count c.args.trimmed) (sym c.store_owned.ensures.put)
    (owned_whole c.args.side.now.main c.args.count c.args.trimmed c.args.at c.args.word c.requires.own c.requires.whole)
