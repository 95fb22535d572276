use Rattle.std.proofs.Common.{ℕ, ◌≡◌, ◌∙◌, List, Some, ap, sym, subst, arith, get_or, slice_get, length, ◌<◌}
use Rattle.std.proofs.Common.{◌≤◌}
use Rattle.std.proofs.lemmas.Option.{slice_get-get_or}
use Rattle.mark_laws.specs.Types.{Event, World}
use Rattle.mark_world.specs.declared.event.Event.TheVariants.{Look}
use Rattle.mark_world.specs.AfterEvents.{after, Possible, WerePossible}
use Rattle.mark_laws.proofs.Moments.{next_moment, one_more_possible}
use Rattle.mark_laws.proofs.Drained.{reached_is_black}
use Rattle.mark_laws.proofs.OneLayouts.{one_layout}
use Rattle.mark_laws.proofs.SoundRuns.{whole_along}
use Rattle.mark_laws.specs.Runs.{IsSoundAndBorn}
use Rattle.mark_core.proofs.runs.replay.Goals as goal

pub loop-at-preserved : goal.loop-at-preserved
loop-at-preserved c =
    let start : World = c.args.start.now in
    let events : List Event = c.args.events.now in
    let of : Event = get_or events c.loop-at.at Look in
    let within : c.loop-at.at < length events = omega arith in
    let there : slice_get events c.loop-at.at ≡ Some of = slice_get-get_or events c.loop-at.at Look within in
    let possible : Possible c.loop-at.world of = c.is_possible.ensures.0 c.if-not-is_possible.false in
    record {
      reached = c.in_ok-apply.ensures ∙ ap (λ (w : World). after w of) c.loop-at.invariant.reached
          ∙ sym (next_moment start events c.loop-at.at of there);
      possible = one_more_possible start events c.loop-at.at of there
          (subst (λ (w : World). Possible w of) c.loop-at.invariant.reached possible) c.loop-at.invariant.possible;
    }

pub returns-then-not-is_possible-clause-stopped : goal.returns-then-not-is_possible-clause-stopped
returns-then-not-is_possible-clause-stopped c =
    let start : World = c.args.start.now in
    let events : List Event = c.args.events.now in
    let of : Event = get_or events c.loop-at.at Look in
    let within : c.loop-at.at < length events = omega arith in
    record {
      before = c.loop-at.invariant.possible;
      event = of;
      there = slice_get-get_or events c.loop-at.at Look within;
      impossible = λ possible.
          let there : Possible c.loop-at.world of =
          subst (λ (w : World). Possible w of) (sym c.loop-at.invariant.reached) possible in
          cc (c.is_possible.ensures.1 there, c.if-not-is_possible.true);
    }

-- the last world is that of a moment, and each moment is whole
pub returns-clause-whole : goal.returns-clause-whole
returns-clause-whole c = λ whole.
    let start : World = c.args.start.now in
    let events : List Event = c.args.events.now in
    let within : c.loop-at.at ≤ length events = omega arith in
    subst IsSoundAndBorn (sym c.loop-at.invariant.reached)
    (whole_along start events c.loop-at.at whole within c.loop-at.invariant.possible c.loop-at.at (omega arith))

-- so each old cell that is reached at its end is black
pub returns-clause-marked : goal.returns-clause-marked
returns-clause-marked c = λ whole drained settled.
    reached_is_black c.loop-at.world (returns-clause-whole c whole).0 settled drained

-- and each snap that made its cell black was read under one layout
pub returns-clause-one_layout : goal.returns-clause-one_layout
returns-clause-one_layout c = λ whole none_out.
    let start : World = c.args.start.now in
    let events : List Event = c.args.events.now in
    let all : c.loop-at.at ≡ length events = omega arith in
    one_layout start events whole none_out
    (subst (λ (n : ℕ). WerePossible start events n) all c.loop-at.invariant.possible)
