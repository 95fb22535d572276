-- The cell waits still exactly where a word was found.
use Rattle.std.proofs.Common.{sym, subst}
use Rattle.heap_table.specs.Seats.{Seat}
use Rattle.mark_barrier.specs.Model.{waiting_in}
use Rattle.mark_barrier.specs.Paid.{IsPaid, ListsAllBut}
use Rattle.mark_barrier.specs.Waiting.{Waiting}
use Rattle.mark_barrier.proofs.Listed.{adds_listed, given_paid, kept_paid}
use Rattle.mark_barrier.proofs.grey_cells.GreyCells.give_cell.Goals as goal

pub returns-then-give_board-ne0-clause-paid : goal.returns-then-give_board-ne0-clause-paid
returns-then-give_board-ne0-clause-paid c =
    let now : Waiting = record { list = c.add.new.self; passed = c.self.inside.passed } in
    subst (λ (s : Seat). IsPaid s now) (sym c.give_board.ensures.given)
    (kept_paid c.args.seat.now (waiting_in c.self.inside) now c.args.place c.args.at c.give_board.result
    c.if-give_board-ne0.true
    (subst (λ (w : Waiting). ListsAllBut c.args.seat.now w c.args.at) (sym c.self.view_is) c.requires.lists)
    c.requires.owed c.requires.waits c.requires.born
    (adds_listed c.self.inside.list c.add.new.self c.self.inside.passed c.args.at c.add.ensures.bound
    c.add.ensures.members))

pub returns-else-give_board-ne0-clause-paid : goal.returns-else-give_board-ne0-clause-paid
returns-else-give_board-ne0-clause-paid c =
    subst (λ (s : Seat). IsPaid s c.args.self.now) (sym c.give_board.ensures.given)
    (given_paid c.args.seat.now c.args.self.now c.args.place c.args.at c.give_board.result c.if-give_board-ne0.false
    c.requires.lists c.requires.off c.requires.owed)
