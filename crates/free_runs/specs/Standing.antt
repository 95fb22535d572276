-- Where a run of enough words stands.
use Rattle.std.specs.Prelude.{ℕ, ◌<◌, ◌≤◌, List, length, get_or}
use Rattle.page_space.specs.declared.run.Run.{Run}
use Rattle.free_runs.specs.FreeRuns.{row_of, longest_in}

-- a run of at least n words stands at the place
pub record StandsAt (runs : List Run) (n place : ℕ) : Type 0 where
  pub there : place < length runs
  pub enough : (run : Run) → n ≤ (get_or runs place run).words

-- the page has a run of at least n words
pub record FitsIn (rows : List (List Run)) (n page : ℕ) : Type 0 where
  pub there : page < length rows
  pub enough : n ≤ longest_in (row_of rows page)

-- no page from the first of these on, and before the second, has a run of n words
abbrev pub FitsInNone : List (List Run) → ℕ → ℕ → ℕ → Type 0
FitsInNone rows n from to = (page : ℕ) → from ≤ page → page < to → longest_in (row_of rows page) < n
