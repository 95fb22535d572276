-- The list is as it was, and colours and board are known no more.
use Rattle.std.proofs.Common.{refl}
use Rattle.write_barrier.proofs.LentSeats.{lent_told_by}
use Rattle.write_barrier.proofs.SeatSteps.{in_mark}
use Rattle.write_barrier.proofs.main_side.Main.lend.Goals as goal

pub invariant_of-self : goal.invariant_of-self
invariant_of-self c =
    let mark = in_mark c.self.inside c.args.self.now c.self.view_is c.requires.mark in
    lent_told_by c.self.inside c.lend.new.self (c.layouts_fit.ensures.shared mark) c.lend.ensures.lent
    c.self.inside.grey refl c.self.invariant mark
