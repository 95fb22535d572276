-- The list is paid in an open cycle.
use Rattle.write_barrier.proofs.SeatSteps.{in_mark, paid_list}
use Rattle.write_barrier.proofs.main_side.Main.shade.Goals as goal

pub shade-requires-clause-paid : goal.shade-requires-clause-paid
shade-requires-clause-paid c =
    let mark = in_mark c.self.inside c.args.self.now c.self.view_is c.requires.mark in
    paid_list c.self.inside c.in-Some.grey c.self.invariant c.in-Some.is mark
