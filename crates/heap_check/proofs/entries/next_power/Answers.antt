use Rattle.std.proofs.Common.{◌≡◌, ◌*◌, ◌%◌, ◌^◌, ◌≤◌, refl, arith}
use Rattle.std.proofs.Math.Pow.{pow_mono}
use Rattle.heap_check.proofs.NextPowers.{next_power_is}
use Rattle.heap_check.proofs.entries.next_power.Goals as goal

pub returns-then-power-n : goal.returns-then-power-n
returns-then-power-n c =
    let power = c.loop-power.power in
    let few : 2 ^ power ≤ 2 ^ 32 = pow_mono {i = power} {j = 32} (omega arith) in
    let same : 1 * 2 ^ power % 18446744073709551616 ≡ 2 ^ power = omega (arith, few) in
    next_power_is c.args.n power (1 * 2 ^ power % 18446744073709551616) same c.if-power-n.true c.loop-power.invariant

-- a number of 32 bits is below the power after the last
pub returns : goal.returns
returns c =
    next_power_is c.args.n 32 4294967296 refl (omega arith) (λ k below. c.loop-power.invariant k (omega arith))
