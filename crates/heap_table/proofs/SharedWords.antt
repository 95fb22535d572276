-- The words of the pages, where a word was put.
use Rattle.std.proofs.Common.{◌≡◌, ℕ, ◌<◌, ◌≤◌, List, take, slice_set}
use Rattle.std.proofs.lemmas.List.{take-set-le}
use Rattle.std.proofs.Math.Seq.{take-set-lt}
use Rattle.page_space.specs.Extents.{Space, eden_start}

module _ (space : Space) (words : List ℕ) where
  -- a word of a page is one of the first words
  pub pages-set_within : (a word : ℕ) → a < eden_start space
      → take (eden_start space) (slice_set words a word) ≡ slice_set (take (eden_start space) words) a word
  pages-set_within a word below = take-set-lt (eden_start space) words a word below

  -- another is none of them
  pub pages-set_behind : (a word : ℕ) → eden_start space ≤ a
      → take (eden_start space) (slice_set words a word) ≡ take (eden_start space) words
  pages-set_behind a word behind = take-set-le (eden_start space) words a word behind
