-- A table while a number is taken out of it.
use Rattle.std.specs.Prelude.{◌≢◌, ℕ, ◌+◌, ◌≤◌, ◌<◌, List, length, Option, Some, None, slice_set}
use Rattle.linear_probing.specs.Tables.{place_after, steps_to, HoldsNumber, IsProbed}

-- the place holds a number for which probing comes there in at most so many steps
pub record IsNear (table : List (Option ℕ)) (at most : ℕ) : Type 0 where
  pub number : ℕ
  pub holds : HoldsNumber table at number
  pub near : steps_to (length table) number at ≤ most

-- The place `hole` is to be free. Behind it, going up and round, so many places were passed: each holds a number, and
-- probing for that does not pass the hole. Each number but the one in the hole is found where the hole counts as
-- filled.
pub record IsShifting (table : List (Option ℕ)) (hole passed : ℕ) : Type 0 where
  pub within : hole < length table
  pub few : passed < length table
  pub near : (k : ℕ) → k < passed → IsNear table (place_after (length table) hole (k + 1)) k
  pub found : (at number : ℕ) → at ≢ hole → HoldsNumber table at number
      → IsProbed None (slice_set table hole (Some 0)) number at
