use Rattle.std.proofs.Common.{below_more, false, ◌≡◌, arith}
use Rattle.mark_world.specs.Pages.{is_head_of}
use Rattle.mark_world.specs.Coverage.{cell_of}
use Rattle.mark_core.proofs.FreeStarts.{all_passed}
use Rattle.mark_core.proofs.cells.is_no_head.Goals as goal
use Rattle.mark_core.proofs.cells.is_no_head.Goals.{else-is_free-via-then-is_free+else-is_head_of}
use Rattle.mark_core.proofs.cells.is_no_head.Goals.{else-is_free-via-else-is_free}

pub loop-start-preserved : goal.loop-start-preserved
loop-start-preserved c = elim c.else-is_free.branch [
  | else-is_free-via-then-is_free+else-is_head_of w ↦
      below_more _ _ c.loop-start.invariant
      (λ free. cc (w.is_head_of.ensures, w.cell_of.ensures, w.if-is_head_of.false))
  | else-is_free-via-else-is_free w ↦
      below_more _ _ c.loop-start.invariant (λ free. cc (c.is_free.ensures, w.if-is_free.false))
]

pub returns : goal.returns
returns c = all_passed c.args.world.now.main
    (λ start. is_head_of start (cell_of c.args.world.now start) c.args.at ≡ false)
    c.as_slice-start-items.result.now c.loop-start.start-index c.as_slice-start-items.ensures (omega arith)
    c.loop-start.invariant
