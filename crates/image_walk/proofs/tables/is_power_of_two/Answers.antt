use Rattle.std.proofs.Common.{◌^◌, ◌≤◌, inl, inr, arith}
use Rattle.std.proofs.Math.Pow.{pow_mono}
use Rattle.std.proofs.lemmas.Bool.{false≢true, cases_lt}
use Rattle.image_walk.proofs.tables.is_power_of_two.Goals as goal

-- a number of 32 bits is below the powers from 32 on
pub returns : goal.returns
returns c = (
  λ wrong. absurd (false≢true wrong),
  λ power. elim (cases_lt power.0 c.loop-power.power) [
    | inl early ↦ absurd (c.loop-power.invariant power.0 early power.1)
    | inr late ↦
        let high : 2 ^ 32 ≤ 2 ^ power.0 = pow_mono {i = 32} {j = power.0} (omega arith) in
        absurd (omega (arith, high, power.1))
  ],
)
