-- What was taken waits with the seat, and so does what waited.
use Rattle.std.proofs.Common.{Contains, sym, subst, arith}
use Rattle.tagged_word.specs.Readings.{reference_in}
use Rattle.shared_table.specs.Seats.{Helping}
use Rattle.work_board.specs.Handed.{word_taken}
use Rattle.table_tests.proofs.Hands.{taken_idle, taker_has, taker_keeps}
use Rattle.table_tests.proofs.steps.take_cell.Goals as goal

pub returns-clause-idle : goal.returns-clause-idle
returns-clause-idle c =
    taken_idle c.args.seat.now c.take.new.seat c.args.place (word_taken c.take.result) c.take.ensures.took
    c.requires.idle

pub returns-clause-has : goal.returns-clause-has
returns-clause-has c = λ at low is.
    subst (λ (h : Helping). Contains h.lent.view.grey at) (sym c.take.ensures.took)
    (taker_has c.args.seat.now.lent.view.grey c.take.result at (omega (arith, low)) is)

pub returns-clause-keeps : goal.returns-clause-keeps
returns-clause-keeps c = λ one has.
    subst (λ (h : Helping). Contains h.lent.view.grey one) (sym c.take.ensures.took)
    (taker_keeps c.args.seat.now.lent.view.grey (reference_in (word_taken c.take.result)) one has)
