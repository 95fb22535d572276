-- Flags as bits of words of 64.
use Rattle.std.specs.Prelude.{◌≡◌, ℕ, ◌*◌, ◌/◌, ◌%◌, ◌<◌, ◌≤◌, ◌==◌, Bool, List, length, map, slice_index_or}
use Rattle.std.specs.List.{range_with_len}
use Rattle.std.specs.Int.{bit_at}

-- the flag of a place is a bit of a word
abbrev pub flag_at : List ℕ → ℕ → Bool
flag_at bits place = bit_at (slice_index_or bits (place / 64) 0) (place % 64) == 1

-- the flags that the bits of words are
unfoldable pub flags_of : List ℕ → List Bool
flags_of bits = map (flag_at bits) (range_with_len 0 (64 * length bits))

-- no bit of the word is set from one on
abbrev pub HasNoBitFrom : ℕ → ℕ → Type 0
HasNoBitFrom word from = (bit : ℕ) → from ≤ bit → bit < 64 → bit_at word bit ≡ 0

-- the bit is the first that is set from one on
pub record IsFirstBitFrom (word from bit : ℕ) : Type 0 where
  pub from_on : from ≤ bit
  pub within : bit < 64
  pub is_set : bit_at word bit ≡ 1
  pub clear_before : (other : ℕ) → from ≤ other → other < bit → bit_at word other ≡ 0
