-- Copies of a stretch of words to another place among them.
use Rattle.std.specs.Prelude.{ℕ, ◌+◌, ◌≤◌, ◌⊎◌, List, ◌++◌, take, drop, slice_range}

-- the two stretches of so many words have no word in common
abbrev pub AreDisjoint : ℕ → ℕ → ℕ → Type 0
AreDisjoint from to count = (from + count ≤ to) ⊎ (to + count ≤ from)

-- the words with a copy of so many of them in place of those that stand from an address on
abbrev pub copied : List ℕ → ℕ → ℕ → ℕ → List ℕ
copied words from to count =
    take to words ++ slice_range words from (from + count) ++ drop (to + count) words
