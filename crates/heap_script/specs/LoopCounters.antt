-- Where a run goes on after a `repeat` or an `end`.
use Rattle.std.specs.Prelude.{ℕ, suc, zero, ◌≤◌, List, [], ◌∷◌, length}
use Rattle.script_text.specs.declared.script.What.{What}
use Rattle.script_text.specs.declared.script.What.TheVariants.{Run, Repeat, End}

-- a place in a script, counted from 0, and the turns left of the blocks that are open there after the present ones, the
-- innermost first
pub record Standing : Type 0 where
  pub at : ℕ
  pub turns : List ℕ

-- at a `repeat` of no turns: behind its `end`
abbrev pub opened : ℕ → List ℕ → ℕ → ℕ → Standing
opened at turns zero end_at = record { at = suc end_at; turns = turns }
opened at turns (suc more) end_at = record { at = suc at; turns = more ∷ turns }

-- at an `end`: behind its `repeat` where turns are left, and else behind itself
abbrev pub closed : ℕ → List ℕ → ℕ → Standing
closed at [] repeat_at = record { at = suc at; turns = [] }
closed at (zero ∷ outer) repeat_at = record { at = suc at; turns = outer }
closed at (suc more ∷ outer) repeat_at = record { at = suc repeat_at; turns = more ∷ outer }

-- where a run goes on after the line at this place
abbrev pub standing_after : ℕ → List ℕ → What → Standing
standing_after at turns (Run command) = record { at = suc at; turns = turns }
standing_after at turns (Repeat times end_at) = opened at turns times end_at
standing_after at turns (End repeat_at) = closed at turns repeat_at

-- an `end` stands in an open block
abbrev pub IsInside : List ℕ → What → Type 0
IsInside turns (End repeat_at) = 1 ≤ length turns
IsInside turns _ = Unit {0}
