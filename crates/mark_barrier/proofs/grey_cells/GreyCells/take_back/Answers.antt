-- The cells that waited with the helper are listed, and those that were passed over are listed again.
use Rattle.std.proofs.Common.{sym, subst}
use Rattle.heap_table.specs.Seats.{Seat}
use Rattle.mark_barrier.specs.Model.{waiting_in}
use Rattle.mark_barrier.specs.Paid.{IsPaid}
use Rattle.mark_barrier.specs.Waiting.{Waiting}
use Rattle.mark_barrier.proofs.Returned.{back_paid, comes_back, lists_all}
use Rattle.mark_barrier.proofs.grey_cells.GreyCells.take_back.Goals as goal

pub returns-clause-paid : goal.returns-clause-paid
returns-clause-paid c =
    let now : Waiting = record { list = c.join-2.new.self; passed = c.clear-2.new.self } in
    subst (λ (s : Seat). IsPaid s now) (sym c.sound.ensures.same)
    (back_paid c.args.seat.now c.take_back.new.self (waiting_in c.self.inside) now c.args.waiting.now
    c.args.helper.lent.view
    (comes_back c.args.seat.now c.take_back.new.self c.args.helper.lent.view c.requires.some c.take_back.ensures.taken
    c.take_back.ensures.last)
    (subst (λ (w : Waiting). IsPaid c.args.seat.now w) (sym c.self.view_is) c.requires.paid) c.requires.snap
    c.requires.visit c.requires.listed
    (lists_all c.self.inside.list c.join.new.self c.join-2.new.self c.self.inside.passed c.clear-2.new.self
    c.args.waiting.now c.join.ensures.joined c.join-2.ensures.joined c.join.ensures.bound c.join-2.ensures.bound
    c.clear-2.ensures) c.sound.ensures.grey)
