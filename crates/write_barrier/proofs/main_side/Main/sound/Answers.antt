-- The world has the heap's layout words, and nothing is owed.
use Rattle.std.proofs.Common.{rules, sym, subst}
use Rattle.write_barrier.specs.Layouts.{HasLayouts}
use Rattle.write_barrier.proofs.KnownSeats.{read_alike}
use Rattle.write_barrier.specs.Cycles.{HasSoundView}
use Rattle.write_barrier.proofs.ScannedCycles.{sound_view}
use Rattle.write_barrier.proofs.SeatSteps.{in_mark, nothing_owed}
use Rattle.write_barrier.proofs.main_side.Main.sound.Goals as goal

pub returns-clause-sound : goal.returns-clause-sound
returns-clause-sound c =
    let mark = in_mark c.self.inside c.args.self.now c.self.view_is c.requires.mark in
    let same = read_alike c.self.inside c.self.invariant (record {
      counted = search rules;
      shared = c.layouts_fit.ensures.shared mark;
      long = c.layouts_fit.ensures.counted;
    }) (subst HasLayouts (sym c.self.view_is) c.requires.layouts) in
    subst HasSoundView c.self.view_is
    (sound_view c.self.inside same (nothing_owed c.self.inside c.self.invariant mark) c.sound.ensures.sound)
