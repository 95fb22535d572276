-- A seat that is lent leaves the cells as they are.
use Rattle.std.proofs.Common.{subst, sym}
use Rattle.shared_table.specs.Seats.{Side}
use Rattle.table_tests.specs.Grids.{IsWholeGrid}
use Rattle.table_tests.proofs.CellSteps.{lent_whole}
use Rattle.table_tests.proofs.crews.seated.Goals as goal

pub returns-clause-whole : goal.returns-clause-whole
returns-clause-whole c =
    subst (λ (side : Side). IsWholeGrid side.main c.args.count 0) (sym c.lend.ensures.lent)
    (lent_whole c.args.side.now.main c.args.count 0 c.requires.whole)
