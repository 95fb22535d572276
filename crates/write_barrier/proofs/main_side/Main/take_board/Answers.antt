-- The list is paid in an open cycle.
use Rattle.write_barrier.proofs.SeatSteps.{in_mark, paid_list}
use Rattle.write_barrier.proofs.main_side.Main.take_board.Goals as goal

pub take-requires-clause-paid : goal.take-requires-clause-paid
take-requires-clause-paid c =
    let mark = in_mark c.self.inside c.args.self.now c.self.view_is c.requires.mark in
    paid_list c.self.inside c.in-Some.grey c.self.invariant c.in-Some.is mark
