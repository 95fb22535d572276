-- The numbers that are drawn: a state of 64 bits goes on by a linear congruence, and its high bits make the number.
use Rattle.std.specs.Prelude.{ℕ, ◌+◌, ◌*◌, ◌/◌, ◌%◌, ◌^◌}

-- the state after one more draw
unfoldable pub next : ℕ → ℕ
next state = (state * 6364136223846793005 + 1442695040888963407) % 2 ^ 64

-- the number below k that a draw gives, by the state after it
unfoldable pub drawn : ℕ → ℕ → ℕ
drawn k state = state / 2 ^ 33 % k
