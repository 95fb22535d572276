use Rattle.std.proofs.Common.{sym, ◌∙◌, take}
use Rattle.scav_core.specs.declared.event.Event.TheVariants.{Look}
use Rattle.scav_core.proofs.Outcomes.{outcome, has_headers, has_copies, copying_of, is_outside}
use Rattle.scav_core.proofs.Outcomes.{has_work, has_logs, is_renamed}
use Rattle.scav_core.proofs.Running.{possible_next, world_next}
use Rattle.scav_core.proofs.run.replay.Goals as goal

pub loop-at-preserved : goal.loop-at-preserved
loop-at-preserved c = record {
  possible =
      possible_next c.args.start.now c.loop-at.world c.args.events.now c.loop-at.at Look c.loop-at-test.true
      c.loop-at.invariant.possible c.loop-at.invariant.world (sym c.is_possible.ensures ∙ c.if-not-is_possible.false);
  world =
      world_next c.args.start.now c.loop-at.world c.after.new.world c.args.events.now c.loop-at.at Look
      c.loop-at-test.true
      c.loop-at.invariant.world c.in_ok-after.ensures;
}

pub returns-clause-headers : goal.returns-clause-headers
returns-clause-headers c = λ fresh.
    has_headers (outcome c.args.start.now c.loop-at.world
    (take c.loop-at.at c.args.events.now) c.loop-at.invariant.possible
    c.loop-at.invariant.world fresh)

pub returns-clause-copies : goal.returns-clause-copies
returns-clause-copies c = λ fresh.
    has_copies (outcome c.args.start.now c.loop-at.world
    (take c.loop-at.at c.args.events.now) c.loop-at.invariant.possible
    c.loop-at.invariant.world fresh)

pub returns-clause-copying : goal.returns-clause-copying
returns-clause-copying c = λ fresh.
    copying_of (outcome c.args.start.now c.loop-at.world
    (take c.loop-at.at c.args.events.now) c.loop-at.invariant.possible
    c.loop-at.invariant.world fresh)

pub returns-clause-outside : goal.returns-clause-outside
returns-clause-outside c = λ fresh.
    is_outside (outcome c.args.start.now c.loop-at.world
    (take c.loop-at.at c.args.events.now) c.loop-at.invariant.possible
    c.loop-at.invariant.world fresh)

pub returns-clause-work : goal.returns-clause-work
returns-clause-work c = λ fresh.
    has_work (outcome c.args.start.now c.loop-at.world
    (take c.loop-at.at c.args.events.now) c.loop-at.invariant.possible
    c.loop-at.invariant.world fresh)

pub returns-clause-logs : goal.returns-clause-logs
returns-clause-logs c = λ fresh.
    has_logs (outcome c.args.start.now c.loop-at.world
    (take c.loop-at.at c.args.events.now) c.loop-at.invariant.possible
    c.loop-at.invariant.world fresh)

pub returns-clause-renamed : goal.returns-clause-renamed
returns-clause-renamed c = λ fresh.
    is_renamed (outcome c.args.start.now c.loop-at.world
    (take c.loop-at.at c.args.events.now) c.loop-at.invariant.possible
    c.loop-at.invariant.world fresh)
