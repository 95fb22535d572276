-- Masks of raw slots.
use Rattle.std.proofs.Common.{ℕ, ◌<◌, ◌≤◌, ◌/◌, ◌^◌, ◌%◌, ◌≡◌, ◌==◌, ◌↔◌, IsTrue, false}
use Rattle.std.proofs.Common.{arith, ap, eq-eqb, eqb-true}
use Rattle.std.proofs.lemmas.Nat.{pow_pos}
use Rattle.std.proofs.lemmas.Nat.Bits.{bit_at_above}
use Rattle.std.proofs.Math.Nat.{div-eq_of_lt, lt-mul-div-succ, pow-le-pow_right}
use native.Mathlib.Numerals.{unary_clauses}

-- a mask has bits below a place alone exactly if a shift by the place leaves nothing
pub shifted_out : (mask place : ℕ) → IsTrue (mask / 2 ^ place == 0) ↔ (mask < 2 ^ place)
shifted_out mask place = (
  (λ h. let e : mask / 2 ^ place ≡ 0 = eqb-true _ _ h in
      let l = lt-mul-div-succ mask (pow_pos place) in
      let below = rw (e) at l in omega (arith, simp unary_clauses at below)),
  (λ h. eq-eqb _ _ (div-eq_of_lt h)),
)

-- a mask of 32 bits has no bit from place 32 on
pub no_bit_above : (mask place : ℕ) → mask < 2 ^ 32 → 32 ≤ place → (mask / 2 ^ place % 2 == 1) ≡ false
no_bit_above mask place m p = ap (λ n. n == 1) (bit_at_above mask 32 place m p)

-- a mask with bits below one of at most 8 places has 8 bits
pub eight_bits : (mask places : ℕ) → places ≤ 8 → mask < 2 ^ places → mask < 256
eight_bits mask places p m =
    let two : 0 < 2 = omega arith in
    let most : 2 ^ places ≤ 256 = pow-le-pow_right two p in
    omega (arith, most)
