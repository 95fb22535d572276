-- What probing finds, and what a number that is put leaves found.
use Rattle.std.specs.Prelude.{◌≡◌, ℕ, ◌<◌, List, length, Option, Some, None, is_some, count_by, replicate, slice_set}
use Rattle.linear_probing.specs.Tables.{place_after, IsFree, HoldsNumber, FindsAll, EndsAt}

-- Probing for a number comes to each place, in fewer steps than there are places.
abbrev pub ComesEverywhere : Type 0
ComesEverywhere =
    (capacity number at : ℕ) → at < capacity
    → (steps : ℕ) × (steps < capacity) × (at ≡ place_after capacity number steps)

-- Where fewer numbers than places stand, a place is free.
abbrev pub FewerLeaveOneFree : Type 0
FewerLeaveOneFree = (table : List (Option ℕ)) → count_by is_some table < length table → (at : ℕ) × IsFree table at

-- Where probing for a number ends at a free place of a table that finds all, the number stands nowhere.
abbrev pub NoneWhereFree : Type 0
NoneWhereFree =
    (table : List (Option ℕ)) (number at : ℕ) → FindsAll table → EndsAt table number at → IsFree table at
    → (other : ℕ) → HoldsNumber table other number → ⊥

-- A table that holds nothing finds all.
abbrev pub EmptyFindsAll : Type 0
EmptyFindsAll = (capacity : ℕ) → FindsAll (replicate capacity None)

-- With the number put at that place the table finds all again.
abbrev pub PutIsFound : Type 0
PutIsFound =
    (table : List (Option ℕ)) (number at : ℕ) → FindsAll table → EndsAt table number at → IsFree table at
    → FindsAll (slice_set table at (Some number))
