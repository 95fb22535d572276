use Rattle.std.proofs.Common.{◌≡◌}
use Rattle.free_runs.specs.FreeRuns.{whole_rows}
use Rattle.free_runs.proofs.rows_of.Given as goal

abbrev pub invariant-loop-page : goal.invariant-loop-page
invariant-loop-page l = l.rows.items ≡ whole_rows l.page
