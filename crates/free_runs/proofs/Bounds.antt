-- The longest of runs, as far as a loop has come, and against the words that are wanted.
use Rattle.std.proofs.Common.{◌≡◌, ℕ, ◌+◌, ◌-◌, ◌<◌, ◌≤◌, max, List, [], ◌∷◌, ◌++◌, length, get_or, take, refl, ap, ◌∙◌}
use Rattle.std.proofs.Common.{arith}
use Rattle.std.proofs.lemmas.List.{take_more}
use Rattle.std.proofs.lemmas.List.Recursion.{max_bounds, max_least, max_push}
use Rattle.page_space.specs.declared.run.Run.{Run}
use Rattle.free_runs.specs.FreeRuns.{AreShort, longest_in, longest_of}

-- no run is longer than the longest
pub bounds : (runs : List Run) (place : ℕ) (d : Run) → place < length runs
    → (get_or runs place d).words ≤ longest_in runs
bounds = max_bounds longest_in (λ run. run.words) refl (λ _ _. refl)

-- no row's longest run is longer than the longest of all
pub bounds_all : (rows : List (List Run)) (page : ℕ) (d : List Run) → page < length rows
    → longest_in (get_or rows page d) ≤ longest_of rows
bounds_all = max_bounds longest_of longest_in refl (λ _ _. refl)

-- one run more is looked at
pub one_more : (runs : List Run) (place : ℕ) (d : Run) → place < length runs
    → longest_in (take (place + 1) runs) ≡ max (longest_in (take place runs)) (get_or runs place d).words
one_more runs place d below =
    ap longest_in (take_more runs place d below)
    ∙ max_push longest_in (λ run. run.words) refl (λ _ _. refl) (take place runs) (get_or runs place d)

-- with one run more the longest is that or the longest before
pub longest_pushed : (runs : List Run) (run : Run) → longest_in (runs ++ run ∷ []) ≡ max (longest_in runs) run.words
longest_pushed = max_push longest_in (λ run. run.words) refl (λ _ _. refl)

-- one row more is looked at
pub one_row_more : (rows : List (List Run)) (page : ℕ) (d : List Run) → page < length rows
    → longest_of (take (page + 1) rows) ≡ max (longest_of (take page rows)) (longest_in (get_or rows page d))
one_row_more rows page d below =
    ap longest_of (take_more rows page d below)
    ∙ max_push longest_of longest_in refl (λ _ _. refl) (take page rows) (get_or rows page d)

-- where each run has fewer words, so has the longest
pub all_fewer : (runs : List Run) (n : ℕ) → 1 ≤ n → AreShort runs n → longest_in runs < n
all_fewer runs n some fewer =
    let least =
    max_least longest_in (λ run. run.words) refl (λ _ _. refl) runs (record { at = 0; words = 0 }) (n - 1)
    (λ place below. omega (arith, some, fewer place (record { at = 0; words = 0 }) below))
    in
    omega (arith, some, least)

-- where the longest has fewer words, so has each run
pub each_fewer : (runs : List Run) (n : ℕ) → longest_in runs < n → AreShort runs n
each_fewer runs n fewer place d below = omega (arith, fewer, bounds runs place d below)

-- the longest of two lists of runs is the longer one of theirs
pub longest_joined : (first second : List Run)
    → longest_in (first ++ second) ≡ max (longest_in first) (longest_in second)
longest_joined [] second = omega arith
longest_joined (run ∷ more) second = omega (arith, longest_joined more second)
