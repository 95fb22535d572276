use Rattle.std.proofs.Common.{refl}
use Rattle.free_runs.proofs.Pages.{whole_more}
use Rattle.free_runs.proofs.rows_of.Goals as goal

pub loop-page-preserved : goal.loop-page-preserved
loop-page-preserved c =
    rw (c.in_ok-push.ensures.items, whole_more c.loop-page.page, c.loop-page.invariant, c.in_ok-whole.ensures) refl
