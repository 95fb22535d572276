use Rattle.std.proofs.Common.{below_more}
use Rattle.slow_check.proofs.moved_roots.are_moved_roots.Goals as goal

pub loop-variable-preserved : goal.loop-variable-preserved
loop-variable-preserved c =
    below_more _ _ c.loop-variable.invariant (c.is_moved_root.ensures.0 c.if-not-is_moved_root.false)
