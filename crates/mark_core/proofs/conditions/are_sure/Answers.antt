use Rattle.std.proofs.Common.{refl, arith}
use Rattle.mark_world.specs.Safety.{plain_slots}
use Rattle.mark_core.specs.HeaderChange.{IsSureSlot}
use Rattle.mark_core.proofs.Passing.{pass_more, all_pass, passes_each, plain_short}
use Rattle.mark_core.proofs.conditions.are_sure.Goals as goal
use Rattle.mark_core.proofs.conditions.are_sure.Goals.{else-is_tagged-via-then-is_tagged+else-not-is_sure_slot}
use Rattle.mark_core.proofs.conditions.are_sure.Goals.{else-is_tagged-via-else-is_tagged}

pub loop-offset-preserved : goal.loop-offset-preserved
loop-offset-preserved c =
    let more = pass_more (plain_slots c.args.new) (IsSureSlot c.args.world.now c.args.at (plain_slots c.args.old))
    c.loop-offset.offset c.loop-offset.invariant in
    elim c.else-is_tagged.branch [
      | else-is_tagged-via-then-is_tagged+else-not-is_sure_slot w ↦
          more (λ tagged. w.is_sure_slot.ensures.0 w.if-not-is_sure_slot.false)
      | else-is_tagged-via-else-is_tagged w ↦
          more (λ tagged. absurd (let t = c.is_tagged.ensures.1 tagged in cc (t, w.if-is_tagged.false)))
    ]

pub returns-then-not-is_sure_slot : goal.returns-then-not-is_sure_slot
returns-then-not-is_sure_slot c = (
  λ t. cc,
  λ all.
      let tagged = c.is_tagged.ensures.0 c.if-is_tagged.true in
      let sure = passes_each (plain_slots c.args.new) (IsSureSlot c.args.world.now c.args.at (plain_slots c.args.old))
      c.loop-offset.offset all tagged in
      cc (c.is_sure_slot.ensures.1 sure, c.if-not-is_sure_slot.true),
)

pub returns : goal.returns
returns c = (
  λ t. all_pass (plain_slots c.args.new) (IsSureSlot c.args.world.now c.args.at (plain_slots c.args.old))
      c.loop-offset.offset
      (λ k d l. let short = plain_short c.args.new.layout c.requires.is c.requires.plain k d l in omega (arith, short))
      c.loop-offset.invariant,
  λ all. refl,
)
