-- Counts of faults, which stand still at the end of 64 bits.
use Rattle.std.specs.Prelude.{◌≡◌, ℕ, ◌+◌, ◌-◌, ◌<◌, ◌^◌, ◌⊎◌, min, Result, Ok, IsErr}
use Rattle.byte_ends.specs.declared.ends.Failed.{Failed}

-- a count of faults rose, or stands at the end of 64 bits
abbrev pub Rose : ℕ → ℕ → Type 0
Rose old new = (old < new) ⊎ (new ≡ 2 ^ 64 - 1)

-- one more, up to the end of 64 bits
abbrev pub one_more : ℕ → ℕ
one_more n = min (n + 1) (2 ^ 64 - 1)

-- the call answers this many bytes, and no fault is counted
abbrev pub HandsOn : ℕ → ℕ → ℕ → Result ℕ Failed → Type 0
HandsOn count old new result = (result ≡ Ok count) × (new ≡ old)

-- the call fails, and one fault more is counted
abbrev pub CountsFault : ℕ → ℕ → Result ℕ Failed → Type 0
CountsFault old new result = IsErr result × (new ≡ one_more old)
