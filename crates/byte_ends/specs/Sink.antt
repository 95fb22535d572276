-- What a sink takes. A sink says of each list of bytes whether it may have taken just these, so one that keeps no
-- bytes can tell what it took as well.
use Rattle.std.specs.Prelude.{ℕ, ◌<◌, ◌≤◌, List, ◌++◌, length, take}

-- a write took n bytes of a piece
pub record Takes (old new : List ℕ → Type 0) (piece : List ℕ) (n : ℕ) : Type 0 where
  pub within : n ≤ length piece
  -- at least one of a piece that is not empty
  pub some : 0 < length piece → 0 < n
  -- they are the first of the piece, and stand behind what was taken before
  pub taken : (before : List ℕ) → old before → new (before ++ take n piece)

-- nothing was taken: whatever it may have taken before, it may have taken now
pub record TakesNothing (old new : List ℕ → Type 0) : Type 0 where
  pub kept : (before : List ℕ) → old before → new before

-- these bytes stand behind what was taken before
pub record Appends (old new : List ℕ → Type 0) (bytes : List ℕ) : Type 0 where
  pub appended : (before : List ℕ) → old before → new (before ++ bytes)

-- some of these bytes from the front, not all of them, stand behind what was taken before
pub record AppendsSome (old new : List ℕ → Type 0) (bytes : List ℕ) : Type 0 where
  pub count : ℕ
  pub short : count < length bytes
  pub front : Appends old new (take count bytes)

-- any bytes may have been taken
abbrev pub AnyBytes : List ℕ → Type 0
AnyBytes _ = Unit {0}
