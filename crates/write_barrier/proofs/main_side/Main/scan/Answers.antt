-- Helpers read the heap's layout words.
use Rattle.std.proofs.Common.{rules, sym, subst}
use Rattle.write_barrier.specs.Layouts.{HasLayouts}
use Rattle.write_barrier.proofs.KnownSeats.{read_alike}
use Rattle.write_barrier.proofs.ScannedCycles.{scanned}
use Rattle.write_barrier.proofs.SeatSteps.{in_mark, paid_list}
use Rattle.write_barrier.proofs.main_side.Main.scan.Goals as goal

pub scan-requires-clause-layouts : goal.scan-requires-clause-layouts
scan-requires-clause-layouts c =
    let mark = in_mark c.self.inside c.args.self.now c.self.view_is c.requires.mark in
    read_alike c.self.inside c.self.invariant (record {
      counted = search rules;
      shared = c.layouts_fit.ensures.shared mark;
      long = c.layouts_fit.ensures.counted;
    }) (subst HasLayouts (sym c.self.view_is) c.requires.layouts)

pub returns : goal.returns
returns c =
    let mark = in_mark c.self.inside c.args.self.now c.self.view_is c.requires.mark in
    let same = read_alike c.self.inside c.self.invariant (record {
      counted = search rules;
      shared = c.layouts_fit.ensures.shared mark;
      long = c.layouts_fit.ensures.counted;
    }) (subst HasLayouts (sym c.self.view_is) c.requires.layouts) in
    let paid = paid_list c.self.inside c.in-Some.grey c.self.invariant c.in-Some.is mark in
    record {
      scans = scanned c.self.inside c.args.self.now c.scan.new.seat c.scan.new.self c.self.view_is
          mark (c.layouts_fit.ensures.shared mark) same paid.owed c.scan.ensures.paid c.scan.ensures.scans;
    }

pub scan-requires-clause-paid : goal.scan-requires-clause-paid
scan-requires-clause-paid c =
    let mark = in_mark c.self.inside c.args.self.now c.self.view_is c.requires.mark in
    paid_list c.self.inside c.in-Some.grey c.self.invariant c.in-Some.is mark
