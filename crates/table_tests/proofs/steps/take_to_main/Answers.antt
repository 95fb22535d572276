-- What was taken waits with the main seat.
use Rattle.std.proofs.Common.{Contains, sym, subst, arith}
use Rattle.shared_table.specs.Seats.{Side}
use Rattle.table_tests.proofs.Hands.{taker_has}
use Rattle.table_tests.proofs.steps.take_to_main.Goals as goal

pub returns-clause-has : goal.returns-clause-has
returns-clause-has c = λ at low is.
    subst (λ (side : Side). Contains side.main.view.grey at) (sym c.main_take.ensures.took)
    (taker_has c.args.side.now.main.view.grey c.main_take.result at (omega (arith, low)) is)
