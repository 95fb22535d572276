-- The step may be made in the open cycle.
use Rattle.std.proofs.Common.{◌≡◌, rules}
use Rattle.heap_table.specs.Phases.{Mark}
use Rattle.write_barrier.proofs.CycleSteps.{new_step}
use Rattle.write_barrier.proofs.SeatSteps.{paid_list}
use Rattle.write_barrier.proofs.main_side.Main.publish_to_helpers.Goals as goal

pub publish-requires-clause-may : goal.publish-requires-clause-may
publish-requires-clause-may c =
    let mark : c.self.inside.seat.phase ≡ Mark = search rules in
    new_step c.self.inside c.args.self.now c.self.view_is c.self.invariant (record {
      counted = search rules;
      shared = c.layouts_fit.ensures.shared mark;
      long = c.layouts_fit.ensures.counted;
    }) mark c.args.a c.requires.may_store c.requires.of_page

pub publish-requires-clause-paid : goal.publish-requires-clause-paid
publish-requires-clause-paid c =
    let mark : c.self.inside.seat.phase ≡ Mark = search rules in
    paid_list c.self.inside c.in-Some.grey c.self.invariant c.in-Some.is mark
