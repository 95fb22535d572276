use Rattle.std.specs.List.{Contains}
use Rattle.std.proofs.Common.{refl, arith}
use Rattle.tagged_word.specs.Cells.{tagged_offsets}
use Rattle.mark_world.specs.Naming.{read_offsets}
use Rattle.mark_core.proofs.Passing.{pass_more, all_pass, passes_each}
use Rattle.mark_core.proofs.naming.are_read.Goals as goal
use Rattle.mark_core.proofs.naming.are_read.Goals.{else-is_tagged-via-then-is_tagged+else-not-was_read}
use Rattle.mark_core.proofs.naming.are_read.Goals.{else-is_tagged-via-else-is_tagged}

pub loop-offset-preserved : goal.loop-offset-preserved
loop-offset-preserved c =
    let more = pass_more (tagged_offsets c.args.layout c.args.long) (Contains (read_offsets c.args.snap.now))
    c.loop-offset.offset c.loop-offset.invariant in
    elim c.else-is_tagged.branch [
      | else-is_tagged-via-then-is_tagged+else-not-was_read w ↦
          more (λ tagged. w.was_read.ensures.0 w.if-not-was_read.false)
      | else-is_tagged-via-else-is_tagged w ↦
          more (λ tagged. absurd (let t = c.is_tagged.ensures.1 tagged in cc (t, w.if-is_tagged.false)))
    ]

pub returns-then-not-was_read : goal.returns-then-not-was_read
returns-then-not-was_read c = (
  λ t. cc,
  λ all.
      let tagged = c.is_tagged.ensures.0 c.if-is_tagged.true in
      let read = passes_each (tagged_offsets c.args.layout c.args.long) (Contains (read_offsets c.args.snap.now))
      c.loop-offset.offset all tagged in
      cc (c.was_read.ensures.1 read, c.if-not-was_read.true),
)

pub returns : goal.returns
returns c = (
  λ t. all_pass (tagged_offsets c.args.layout c.args.long) (Contains (read_offsets c.args.snap.now))
      c.loop-offset.offset
      (λ k d l. omega (arith, c.requires k d l)) c.loop-offset.invariant,
  λ all. refl,
)
