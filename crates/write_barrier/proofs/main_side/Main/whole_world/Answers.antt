-- The world has the heap's layout words, and nothing is owed.
use Rattle.std.proofs.Common.{rules, sym, subst}
use Rattle.write_barrier.specs.Layouts.{HasLayouts}
use Rattle.write_barrier.proofs.KnownSeats.{read_alike}
use Rattle.write_barrier.specs.Cycles.{HasWholeWorld}
use Rattle.write_barrier.proofs.ScannedCycles.{whole_world}
use Rattle.write_barrier.proofs.SeatSteps.{in_mark, nothing_owed}
use Rattle.write_barrier.proofs.main_side.Main.whole_world.Goals as goal

pub returns-clause-whole : goal.returns-clause-whole
returns-clause-whole c =
    let mark = in_mark c.self.inside c.args.self.now c.self.view_is c.requires.mark in
    let same = read_alike c.self.inside c.self.invariant (record {
      counted = search rules;
      shared = c.layouts_fit.ensures.shared mark;
      long = c.layouts_fit.ensures.counted;
    }) (subst HasLayouts (sym c.self.view_is) c.requires.layouts) in
    subst HasWholeWorld c.self.view_is
    (whole_world c.self.inside same (nothing_owed c.self.inside c.self.invariant mark) c.whole.ensures.whole)
