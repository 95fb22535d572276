use Rattle.std.proofs.Common.{◌≡◌, take}
use Rattle.free_runs.specs.FreeRuns.{longest_in}
use Rattle.free_runs.proofs.row.longest.Given as goal

abbrev pub invariant-loop-run : goal.invariant-loop-run
invariant-loop-run l = l.longest ≡ longest_in (take l.run-index l.runs)
