-- What is left of free runs where copies took their fronts.
use Rattle.std.specs.Prelude.{◌≡◌, ℕ, ◌+◌, ◌≤◌, List, Contains}
use Rattle.free_runs.specs.FreeRuns.{row_of}
use Rattle.heap_model.specs.Types.{Run}

-- The run is the back of one of these: it ends where that ends, and begins no earlier.
pub record IsBackIn (runs : List Run) (run : Run) : Type 0 where
  pub was : Run
  pub among : Contains runs was
  pub from : was.at ≤ run.at
  pub ends : run.at + run.words ≡ was.at + was.words

-- Each free run that is left is the back of one that stood, in the same page.
abbrev pub AreBacks : List (List Run) → List (List Run) → Type 0
AreBacks old new = (page : ℕ) (run : Run) → Contains (row_of new page) run → IsBackIn (row_of old page) run
