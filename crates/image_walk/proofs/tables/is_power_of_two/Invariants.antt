use Rattle.std.proofs.Common.{◌≡◌, ℕ, ◌^◌, ◌<◌}
use Rattle.image_walk.proofs.tables.is_power_of_two.Given as goal

abbrev pub invariant-loop-power : goal.invariant-loop-power
invariant-loop-power l = (power : ℕ) → power < l.power → l.n ≡ 2 ^ power → ⊥
