-- The word of a place: the round in its upper half, and the value in its lower one.
use Rattle.std.specs.Prelude.{◌≡◌, ℕ, ◌+◌, ◌*◌, ◌/◌, ◌%◌}

-- the last round of a table
abbrev pub last_round : ℕ
last_round = 4294967295

-- the word of a place that was claimed in the round for the value
abbrev pub word_of : ℕ → ℕ → ℕ
word_of round value = round * 4294967296 + value

-- the round in which the place was claimed last
abbrev pub round_in : ℕ → ℕ
round_in word = word / 4294967296

-- what it was claimed for
abbrev pub value_in : ℕ → ℕ
value_in word = word % 4294967296

-- the word is that of a claim in the round for the value
pub record IsClaimedFor (round value word : ℕ) : Type 0 where
  pub when : round_in word ≡ round
  pub what : value_in word ≡ value
