-- The search for a slot that refers to an address.
use Rattle.std.specs.Prelude.{ℕ, Option, Some, None}

-- a slot of which this holds; none where it holds of none
abbrev pub IsFound : (ℕ → Type 0) → Option ℕ → Type 0
IsFound P None = (slot : ℕ) → P slot → ⊥
IsFound P (Some slot) = P slot
