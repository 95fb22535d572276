-- Pages before one have no free run.
use Rattle.std.proofs.Common.{◌≡◌, ℕ, ◌<◌, [], length}
use Rattle.free_runs.specs.FreeRuns.{row_of}
use Rattle.sweeper.proofs.covering.clear_pages.Given as goal

abbrev pub invariant-loop-page : goal.invariant-loop-page
invariant-loop-page l = record {
  same : l.main ≡ record l.fn.main { free = l.main.free };
  count : length l.main.free ≡ length l.fn.main.free;
  none : (page : ℕ) → page < l.page → row_of l.main.free page ≡ [];
}
