use Rattle.std.proofs.Common.{ℕ, ◌^◌, ◌≤◌, ◌<◌}
use Rattle.heap_check.proofs.entries.next_power.Given as goal

abbrev pub invariant-loop-power : goal.invariant-loop-power
invariant-loop-power l = (power : ℕ) → power < l.power → 2 ^ power ≤ l.n
