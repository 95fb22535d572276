-- What each step of taking a number out keeps.
use Rattle.std.specs.Prelude.{◌≡◌, ℕ, ◌+◌, ◌≤◌, ◌<◌, ◌⊎◌, List, length, Option, Some, None, slice_set}
use Rattle.linear_probing.specs.Tables.{place_after, steps_to, IsFree, HoldsNumber, FindsAll}
use Rattle.linear_probing.specs.BackwardShift.{IsShifting}

-- It begins in a table that finds all, at any place.
abbrev pub ShiftBegins : Type 0
ShiftBegins = (table : List (Option ℕ)) (at : ℕ) → FindsAll table → at < length table → IsShifting table at 0

-- the next place behind the hole and those that were passed
abbrev pub next_place : List (Option ℕ) → ℕ → ℕ → ℕ
next_place table hole passed = place_after (length table) hole (passed + 1)

-- A number at the next place is passed where probing for it does not pass the hole.
abbrev pub ShiftPasses : Type 0
ShiftPasses =
    (table : List (Option ℕ)) (hole passed number : ℕ) → IsShifting table hole passed → passed + 1 < length table
    → HoldsNumber table (next_place table hole passed) number
    → steps_to (length table) number (next_place table hole passed) ≤ passed
    → IsShifting table hole (passed + 1)

-- Else it moves to the hole, and leaves one where it stood.
abbrev pub ShiftMoves : Type 0
ShiftMoves =
    (table : List (Option ℕ)) (hole passed number : ℕ) → IsShifting table hole passed → passed + 1 < length table
    → HoldsNumber table (next_place table hole passed) number
    → passed < steps_to (length table) number (next_place table hole passed)
    → IsShifting (slice_set table hole (Some number)) (next_place table hole passed) 0

-- Where the next place is free, or none is left, all are found once the hole is free.
abbrev pub ShiftEnds : Type 0
ShiftEnds =
    (table : List (Option ℕ)) (hole passed : ℕ) → IsShifting table hole passed
    → (passed + 1 ≡ length table) ⊎ IsFree table (next_place table hole passed)
    → FindsAll (slice_set table hole None)

-- What moves to a place below the one where it began comes from a place below that.
abbrev pub MovesStayBelow : Type 0
MovesStayBelow =
    (capacity began steps more : ℕ) → began < capacity → 1 ≤ more → steps + more < capacity
    → place_after capacity began steps < began → place_after capacity began (steps + more) < began
