-- The cell that was made black is one that the mutator made black.
use Rattle.std.proofs.Common.{Contains, sym, subst}
use Rattle.core_parts.proofs.Joining.{joined_in}
use Rattle.shared_table.specs.Seats.{Side}
use Rattle.table_tests.proofs.gated.own_cell.Goals as goal

pub store_own-requires-clause-mine : goal.store_own-requires-clause-mine
store_own-requires-clause-mine c =
    subst (λ (side : Side). Contains side.main.view.mine 0) (sym c.blacken.ensures.blackened)
    (joined_in c.args.side.now.main.view.mine 0)
