-- The next greater power of two.
use Rattle.std.proofs.Common.{◌≡◌, ℕ, ◌^◌, ◌≤◌, ◌<◌, inl, inr, arith}
use Rattle.std.proofs.Math.Pow.{pow_mono}
use Rattle.std.proofs.lemmas.Bool.{cases_lt}
use Rattle.heap_check.specs.Cells.{IsNextPower}

-- a greater power of two is the next one where no less power is greater
pub next_power_is : (n power value : ℕ) → value ≡ 2 ^ power → n < value → ((k : ℕ) → k < power → 2 ^ k ≤ n)
    → IsNextPower n value
next_power_is n power value is greater less = record {
  is_power = (power, is);
  greater = greater;
  next = λ other two more. elim (cases_lt two.0 power) [
    | inl early ↦ absurd (omega (arith, less two.0 early, two.1, more))
    | inr late ↦
        let above : 2 ^ power ≤ 2 ^ two.0 = pow_mono {i = power} {j = two.0} late in
        omega (arith, above, is, two.1)
  ];
}
