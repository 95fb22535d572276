-- Laws of free runs: what the longest run tells, and what a take leaves.
use Rattle.std.specs.Prelude.{ℕ, ◌+◌, ◌<◌, ◌≤◌, ◌↔◌, ◌⊎◌, List, Contains}
use Rattle.page_space.specs.declared.run.Run.{Run}
use Rattle.free_runs.specs.FreeRuns.{AreFree, FitsNowhere, TakesFront, longest_of, row_of}

-- the word at the address is one of the run's
pub record IsOfRun (run : Run) (at : ℕ) : Type 0 where
  pub from : run.at ≤ at
  pub below : at < run.at + run.words

-- the word at the address is in one of these runs
pub record IsFreeIn (runs : List Run) (at : ℕ) : Type 0 where
  pub run : Run
  pub among : Contains runs run
  pub of_run : IsOfRun run at

-- the word at the address is in a run of a page
pub record IsFreeWord (rows : List (List Run)) (at : ℕ) : Type 0 where
  pub page : ℕ
  pub free : IsFreeIn (row_of rows page) at

-- The longest run has fewer than n words exactly where n words fit nowhere.
abbrev pub LongestTells : Type 0
LongestTells = (rows : List (List Run)) (n : ℕ) → 1 ≤ n → (longest_of rows < n) ↔ FitsNowhere rows n

-- A take makes no run longer than the longest was.
abbrev pub TakesMakeNoneLonger : Type 0
TakesMakeNoneLonger =
    (old new : List (List Run)) (n : ℕ) (taken : Run) → TakesFront old new n taken → longest_of new ≤ longest_of old

-- The words of all runs after a take, with those taken, are those before.
abbrev pub TakesKeepWords : Type 0
TakesKeepWords =
    (old new : List (List Run)) (n : ℕ) (taken : Run) (at : ℕ) → TakesFront old new n taken
    → IsFreeWord old at ↔ (IsFreeWord new at ⊎ IsOfRun taken at)

-- No word that was taken is in a run afterwards.
abbrev pub TakenAreApart : Type 0
TakenAreApart =
    (old new : List (List Run)) (n : ℕ) (taken : Run) (at : ℕ) → AreFree old → TakesFront old new n taken
    → IsOfRun taken at → IsFreeWord new at → ⊥
