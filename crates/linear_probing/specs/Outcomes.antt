-- What looking a number up in a table tells, and what taking one out leaves.
use Rattle.std.specs.Prelude.{ℕ, ◌⊎◌, List, Option, None, slice_set}
use Rattle.std.specs.List.Sorted.{IsPermutation}
use Rattle.linear_probing.specs.Tables.{EndsAt, HoldsNumber, IsFree}

-- the place is free, or holds the number
abbrev pub IsMet : List (Option ℕ) → ℕ → ℕ → Type 0
IsMet table number at = IsFree table at ⊎ HoldsNumber table at number

-- Probing for the number ends at the place: it is the first one on the way that is free, or holds the number.
pub record IsEnd (table : List (Option ℕ)) (number at : ℕ) : Type 0 where
  pub ends : EndsAt table number at
  pub met : IsMet table number at

-- no place is free, and none holds the number
abbrev pub HasNoEnd : List (Option ℕ) → ℕ → Type 0
HasNoEnd table number = (at : ℕ) → IsMet table number at → ⊥

-- The new table is the old one with the place free, in some other order or none: what stood at other places stands in
-- it, as often, and nothing else.
abbrev pub Removes : List (Option ℕ) → List (Option ℕ) → ℕ → Type 0
Removes old new at = IsPermutation (slice_set old at None) new
