-- The list is paid in an open cycle.
use Rattle.write_barrier.proofs.SeatSteps.{in_mark, paid_list}
use Rattle.write_barrier.proofs.main_side.Main.drop_cycle.Goals as goal

pub drop_cycle-requires-clause-paid : goal.drop_cycle-requires-clause-paid
drop_cycle-requires-clause-paid c =
    let mark = in_mark c.self.inside c.args.self.now c.self.view_is c.requires.mark in
    paid_list c.self.inside c.in-Some.grey c.self.invariant c.in-Some.is mark
