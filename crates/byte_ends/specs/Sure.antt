-- What a source and a sink that never fail do.
use Rattle.std.specs.Prelude.{◌≡◌, ℕ, ◌+◌, ◌%◌, ◌^◌, List, length, sum}

-- the remainder that 64 bits keep
abbrev pub wrapped : ℕ → ℕ
wrapped n = n % 2 ^ 64

-- A tally: how many bytes it has taken, and the sum of their values, each modulo 2^64.
pub record Sums : Type 0 where
  pub bytes : ℕ
  pub total : ℕ

-- a tally has taken these bytes: its count is their count, and its sum theirs
pub record HasSums (sums : Sums) (bytes : List ℕ) : Type 0 where
  pub bytes-is : sums.bytes ≡ wrapped (length bytes)
  pub total-is : sums.total ≡ wrapped (sum bytes)

-- these bytes are counted, and their values added
abbrev pub with_piece : Sums → List ℕ → Sums
with_piece sums piece = record {
  bytes = wrapped (sums.bytes + length piece);
  total = wrapped (sums.total + sum piece);
}
