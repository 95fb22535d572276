-- The slots of a cell, one after another.
use Rattle.std.specs.Prelude.{ℕ, ◌≤◌, ◌<◌, List, Option, Some, None, All, Contains}

-- the offset is the least of these that is not below another
pub record IsLeastFrom (offsets : List ℕ) (from offset : ℕ) : Type 0 where
  pub among : Contains offsets offset
  pub reached : from ≤ offset
  pub least : (other : ℕ) → Contains offsets other → from ≤ other → offset ≤ other

-- the least of these offsets that is not below one; none where all are below it
abbrev pub IsFirstFrom : List ℕ → ℕ → Option ℕ → Type 0
IsFirstFrom offsets from None = All (λ offset. offset < from) offsets
IsFirstFrom offsets from (Some offset) = IsLeastFrom offsets from offset
