-- How the pairs of a table come to another one.
use Rattle.std.specs.Prelude.{◌≡◌, ℕ, ◌+◌, ◌≤◌, ◌<◌, List, drop, count_by, not}
use Rattle.heap_model.specs.Kinds.{Pair, is_free_pair}
use Rattle.weak_pairs.specs.Pairs.{IsFilledAt}

-- Those of the pairs before that hold something and stand at one of so many first places stand once among the pairs
-- after, and nothing else does.
pub record AreRehashed (before after : List Pair) (count : ℕ) : Type 0 where
  pub origin : ℕ → ℕ
  pub from : (at : ℕ) (pair : Pair) → IsFilledAt after at pair
      → IsFilledAt before (origin at) pair × (origin at < count)
  pub apart : (at other : ℕ) (pair another : Pair) → IsFilledAt after at pair → IsFilledAt after other another
      → origin at ≡ origin other → at ≡ other
  pub kept : (at : ℕ) (pair : Pair) → IsFilledAt before at pair → at < count
      → (now : ℕ) × IsFilledAt after now pair × (origin now ≡ at)
  pub few : count_by (λ one. not (is_free_pair one)) after ≤ count
  pub counted : count_by (λ one. not (is_free_pair one)) after
      + count_by (λ one. not (is_free_pair one)) (drop count before)
      ≡ count_by (λ one. not (is_free_pair one)) before
