-- The step may be made in the open cycle: the cell is born, and helpers read the heap's layout words.
use Rattle.std.proofs.Common.{◌≡◌, rules}
use Rattle.heap_table.specs.Phases.{Mark}
use Rattle.write_barrier.proofs.CycleSteps.{KnowsLayouts, black_steps, may_black, same_layouts}
use Rattle.write_barrier.proofs.SeatSteps.{paid_list}
use Rattle.write_barrier.proofs.main_side.Main.blacken_for_helpers.Goals as goal

pub blacken-requires-clause-born : goal.blacken-requires-clause-born
blacken-requires-clause-born c =
    let mark : c.self.inside.seat.phase ≡ Mark = search rules in
    (may_black c.self.inside c.args.self.now c.self.view_is c.self.invariant (record {
      counted = search rules;
      shared = c.layouts_fit.ensures.shared mark;
      long = c.layouts_fit.ensures.counted;
    }) mark c.args.cell c.requires.may_store c.requires.of_page).may

pub blacken-requires-clause-layouts : goal.blacken-requires-clause-layouts
blacken-requires-clause-layouts c =
    let mark : c.self.inside.seat.phase ≡ Mark = search rules in
    let knows : KnowsLayouts c.self.inside.seat = record {
      counted = search rules;
      shared = c.layouts_fit.ensures.shared mark;
      long = c.layouts_fit.ensures.counted;
    } in
    same_layouts c.self.inside c.args.self.now c.self.view_is c.self.invariant knows mark
    (may_black c.self.inside c.args.self.now c.self.view_is c.self.invariant knows mark c.args.cell
    c.requires.may_store c.requires.of_page).layouts

pub returns-in-Some : goal.returns-in-Some
returns-in-Some c =
    let mark : c.self.inside.seat.phase ≡ Mark = search rules in
    let knows : KnowsLayouts c.self.inside.seat = record {
      counted = search rules;
      shared = c.layouts_fit.ensures.shared mark;
      long = c.layouts_fit.ensures.counted;
    } in
    black_steps c.self.inside c.args.self.now c.blacken.new.seat c.blacken.new.self c.args.cell c.self.view_is
    knows.shared mark (same_layouts c.self.inside c.args.self.now c.self.view_is c.self.invariant knows mark
    (may_black c.self.inside c.args.self.now c.self.view_is c.self.invariant knows mark c.args.cell
    c.requires.may_store c.requires.of_page).layouts) c.blacken.ensures.steps

pub blacken-requires-clause-paid : goal.blacken-requires-clause-paid
blacken-requires-clause-paid c =
    let mark : c.self.inside.seat.phase ≡ Mark = search rules in
    paid_list c.self.inside c.in-Some.grey c.self.invariant c.in-Some.is mark
