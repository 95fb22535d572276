-- The step may be made in the open cycle, and pays what it owes.
use Rattle.std.proofs.Common.{◌≡◌, rules}
use Rattle.heap_table.specs.Phases.{Mark}
use Rattle.write_barrier.proofs.CycleSteps.{of_page, slot_step}
use Rattle.write_barrier.proofs.SeatSteps.{paid_list}
use Rattle.write_barrier.proofs.main_side.Main.share_slot.Goals as goal

pub store-requires-clause-may : goal.store-requires-clause-may
store-requires-clause-may c =
    let mark : c.self.inside.seat.phase ≡ Mark = search rules in
    slot_step c.self.inside c.args.self.now c.self.view_is c.self.invariant (record {
      counted = search rules;
      shared = c.layouts_fit.ensures.shared mark;
      long = c.layouts_fit.ensures.counted;
    }) mark c.args.slot c.args.value.0 c.requires.may_store c.requires.of_page

pub store-requires-clause-within : goal.store-requires-clause-within
store-requires-clause-within c =
    of_page c.self.inside c.args.self.now c.args.slot c.self.view_is c.self.invariant c.requires.of_page

pub store_owned-requires-clause-within : goal.store_owned-requires-clause-within
store_owned-requires-clause-within c =
    of_page c.self.inside c.args.self.now c.args.slot c.self.view_is c.self.invariant c.requires.of_page

pub store-requires-clause-paid : goal.store-requires-clause-paid
store-requires-clause-paid c =
    let mark : c.self.inside.seat.phase ≡ Mark = search rules in
    paid_list c.self.inside c.in-Some.grey c.self.invariant c.in-Some.is mark
