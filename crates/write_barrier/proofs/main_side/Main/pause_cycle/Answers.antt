-- The cycle waits, and its marks are told.
use Rattle.std.proofs.Common.{rules, sym, subst, ◌∙◌, ap}
use Rattle.write_barrier.specs.Layouts.{HasLayouts}
use Rattle.write_barrier.specs.MutatorState.{Mutator}
use Rattle.write_barrier.proofs.KnownSeats.{read_alike}
use Rattle.write_barrier.proofs.PausedCycles.{pause_told, pauses}
use Rattle.write_barrier.proofs.SeatSteps.{in_mark, nothing_owed}
use Rattle.write_barrier.proofs.main_side.Main.pause_cycle.Goals as goal

pub returns : goal.returns
returns c =
    let mark = in_mark c.self.inside c.args.self.now c.self.view_is c.requires.mark in
    let home = ap (λ (one : Mutator). one.seat.home) c.self.view_is ∙ c.requires.home in
    let shared = c.layouts_fit.ensures.shared mark in
    let same = read_alike c.self.inside c.self.invariant (record {
      counted = search rules;
      shared = shared;
      long = c.layouts_fit.ensures.counted;
    }) (subst HasLayouts (sym c.self.view_is) c.requires.layouts) in
    record {
      paused = pauses c.self.inside c.self.invariant mark home shared c.args.self.now c.pause_cycle.new.self
          c.self.view_is same (nothing_owed c.self.inside c.self.invariant mark) c.pause_cycle.ensures.whole
          c.pause_cycle.ensures.paused;
    }

pub invariant_of-self : goal.invariant_of-self
invariant_of-self c =
    let mark = in_mark c.self.inside c.args.self.now c.self.view_is c.requires.mark in
    let home = ap (λ (one : Mutator). one.seat.home) c.self.view_is ∙ c.requires.home in
    pause_told c.self.inside c.self.invariant mark home (c.layouts_fit.ensures.shared mark) c.pause_cycle.new.self
    c.pause_cycle.ensures.paused
