use Rattle.std.proofs.Common.{arith}
use Rattle.free_runs.proofs.Bounds.{one_more}
use Rattle.free_runs.proofs.row.longest.Goals.{then-longest-run, else-longest-run}
use Rattle.free_runs.proofs.row.longest.Goals as goal

pub loop-run-preserved : goal.loop-run-preserved
loop-run-preserved c =
    let more = one_more c.args.runs.now c.loop-run.run-index (record { at = 0; words = 0 }) (omega arith) in
    elim c.if-longest-run.branch [
      | then-longest-run w ↦ grind (arith, more, w.longest-is)
      | else-longest-run w ↦ grind (arith, more, w.longest-is)
    ]
