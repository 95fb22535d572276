use Rattle.std.proofs.Common.{arith}
use Rattle.free_runs.proofs.Bounds.{one_row_more}
use Rattle.free_runs.proofs.longest.Goals.{then-longest, else-longest}
use Rattle.free_runs.proofs.longest.Goals as goal

pub loop-row-preserved : goal.loop-row-preserved
loop-row-preserved c =
    let more = one_row_more c.args.rows.now c.loop-row.row-index c.row-item.result (omega arith) in
    elim c.if-longest.branch [
      | then-longest w ↦ grind (arith, more, c.row-item.is, w.longest-is)
      | else-longest w ↦ grind (arith, more, c.row-item.is, w.longest-is)
    ]
