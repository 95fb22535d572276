-- What a source gives.
use Rattle.std.specs.Prelude.{◌≡◌, ℕ, ◌<◌, ◌≤◌, List, [], length, take, drop, Option, Some, IfSome}

-- a read gave n bytes into a buffer
pub record ReadsInto (old new : Option (List ℕ)) (before after : List ℕ) (n : ℕ) : Type 0 where
  pub within : n ≤ length before
  -- they are the first of what was left, and the others are left then
  pub given : IfSome old (λ left. (n ≤ length left) × (take n after ≡ take n left) × (new ≡ Some (drop n left)))
  -- none are given only at the end of the input, or into an empty buffer
  pub ended : IfSome old (λ left. n ≡ 0 → 0 < length before → left ≡ [])

-- these bytes are those that the source had left, where it tells them
abbrev pub IsInput : Option (List ℕ) → List ℕ → Type 0
IsInput left input = IfSome left (λ all. input ≡ all)
