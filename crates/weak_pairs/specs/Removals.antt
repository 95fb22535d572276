-- What is left of the pairs of a table once one was removed.
use Rattle.std.specs.Prelude.{◌≡◌, ◌≢◌, ℕ, ◌+◌, ◌<◌, List, length, count_by, not}
use Rattle.heap_model.specs.Kinds.{Pair, is_free_pair}
use Rattle.weak_pairs.specs.Pairs.{IsFilledAt}

-- The pairs once that at a place was removed. Each that holds something stood at another place before, no two at one
-- place, and each other one that did stands somewhere.
pub record IsRemoved (before after : List Pair) (place : ℕ) : Type 0 where
  pub long : length after ≡ length before
  pub origin : ℕ → ℕ
  pub from : (at : ℕ) (pair : Pair) → IsFilledAt after at pair
      → IsFilledAt before (origin at) pair × (origin at ≢ place)
  pub apart : (at other : ℕ) (pair another : Pair) → IsFilledAt after at pair → IsFilledAt after other another
      → origin at ≡ origin other → at ≡ other
  pub kept : (at : ℕ) (pair : Pair) → IsFilledAt before at pair → at ≢ place
      → (now : ℕ) × IsFilledAt after now pair × (origin now ≡ at)
  pub counted : (pair : Pair) → IsFilledAt before place pair
      → count_by (λ one. not (is_free_pair one)) after + 1 ≡ count_by (λ one. not (is_free_pair one)) before

-- what stands below the place stood below it before
abbrev pub StaysBelow : {before after : List Pair} {place : ℕ} → IsRemoved before after place → Type 0
StaysBelow {before} {after} {place} removed =
    (at : ℕ) (pair : Pair) → IsFilledAt after at pair → at < place → removed.origin at < place
