-- The capacity of a table that takes the place of another is a power of two.
use Rattle.std.proofs.Common.{◌≡◌, ℕ, ◌+◌, ◌*◌, inl, inr, ◌∙◌, ap, arith, ◌^◌, sym}
use Rattle.std.proofs.lemmas.Bool.{cases_lt}
use Rattle.std.proofs.lemmas.Nat.{pow-add}
use Rattle.heap_model.specs.Kinds.{IsPowerOfTwo}
use Rattle.heap_model.specs.Needs.{grown_table}

-- twice a power of two is one
doubled_power : (n : ℕ) → IsPowerOfTwo n → IsPowerOfTwo (2 * n)
doubled_power n power =
    let next : 2 ^ (power.0 + 1) ≡ 2 * 2 ^ power.0 = omega (arith, pow-add 2 power.0 1) in
    (power.0 + 1, ap (λ m. 2 * m) power.1 ∙ sym next)

-- the table that takes the place of one has as many pairs as a power of two
pub grown_power : (capacity : ℕ) → IsPowerOfTwo capacity → IsPowerOfTwo (grown_table capacity)
grown_power capacity power = elim (cases_lt (2 * capacity) 512) [
  | inl low ↦ elim (cases_lt (2 * capacity) 4) [
    | inl few ↦ (2, omega (arith, few))
    | inr some ↦
        let same : grown_table capacity ≡ 2 * capacity = omega (arith, low, some) in
        let twice = doubled_power capacity power in (twice.0, same ∙ twice.1)
  ]
  | inr high ↦ (9, omega (arith, high))
]

-- a table that is made where there is none has as many pairs as a power of two
pub first_power : (capacity : ℕ) → capacity ≡ 0 → IsPowerOfTwo (grown_table capacity)
first_power capacity none = (2, omega (arith, none))
