use Rattle.std.proofs.Common.{◌≡◌, take}
use Rattle.free_runs.specs.FreeRuns.{longest_of}
use Rattle.free_runs.proofs.longest.Given as goal

abbrev pub invariant-loop-row : goal.invariant-loop-row
invariant-loop-row l = l.longest ≡ longest_of (take l.row-index l.rows)
