-- A cell that could not be given waits still, and so does each other one.
use Rattle.std.proofs.Common.{◌==◌, Contains, sym, subst}
use Rattle.shared_table.specs.Seats.{Helping}
use Rattle.work_board.specs.Handed.{word_found}
use Rattle.table_tests.proofs.Hands.{given_idle, giver_has, giver_keeps}
use Rattle.table_tests.proofs.steps.give_cell.Goals as goal

pub returns-clause-idle : goal.returns-clause-idle
returns-clause-idle c =
    given_idle c.args.seat.now c.give.new.seat c.args.place c.args.at (word_found c.give.result) c.give.ensures.gave
    c.requires.idle

pub returns-clause-kept : goal.returns-clause-kept
returns-clause-kept c = λ lost.
    subst (λ (h : Helping). Contains h.lent.view.grey c.args.at) (sym c.give.ensures.gave)
    (giver_has c.args.seat.now.lent.view.grey c.args.at c.give.result c.give.ensures.found lost c.requires.waits)

pub returns-clause-keeps : goal.returns-clause-keeps
returns-clause-keeps c = λ one other has.
    subst (λ (h : Helping). Contains h.lent.view.grey one) (sym c.give.ensures.gave)
    (giver_keeps (word_found c.give.result == 0) c.args.seat.now.lent.view.grey c.args.at one other has)
