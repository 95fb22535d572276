use Rattle.std.proofs.Common.{ℕ, ◌<◌, get_or}
use Rattle.page_space.specs.declared.run.Run.{Run}
use Rattle.free_runs.proofs.row.place_for.Given as goal

abbrev pub invariant-loop-place : goal.invariant-loop-place
invariant-loop-place l = (k : ℕ) (d : Run) → k < l.place → (get_or l.runs k d).words < l.n
