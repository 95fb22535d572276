-- Breaches of a part of what a whole heap is, and which of them is the first.
use Rattle.std.specs.Prelude.{ℕ, ◌≤◌, ◌==◌, Option, Some, None, nat_lt, if◌then◌else◌}
use Rattle.heap_model.specs.Slots.{undefined_word, hole_word}
use Rattle.heap_check.specs.declared.flaw.Flaw.{Flaw}

-- The flaw is a breach of a part, by its address, the word that stands there and the word that is asked for; and no
-- breach of that part has a lower address.
pub record IsFirst (Breaks : ℕ → ℕ → ℕ → Type 0) (flaw : Flaw) : Type 0 where
  pub breaks : Breaks flaw.at flaw.found flaw.wanted
  pub first : (at found wanted : ℕ) → Breaks at found wanted → flaw.at ≤ at

-- what a judge of a part comes to: nothing where the part is as it should be, and else the first breach of it
abbrev pub IsVerdict : Type 0 → (ℕ → ℕ → ℕ → Type 0) → Option Flaw → Type 0
IsVerdict Sound Breaks None = Sound
IsVerdict Sound Breaks (Some flaw) = IsFirst Breaks flaw

-- what is asked for in a slot that may hold several words: `undefined`, or the hole where `undefined` stands
abbrev pub asked_of : ℕ → ℕ
asked_of found = if found == undefined_word then hole_word else undefined_word

-- the flaw, or the other one if that has a lower address
abbrev pub earlier_flaw_of : Flaw → Option Flaw → Flaw
earlier_flaw_of flaw None = flaw
earlier_flaw_of flaw (Some other) = if nat_lt other.at flaw.at then other else flaw

-- of two flaws the one of the lower address; the first where they have one address
abbrev pub earlier_of : Option Flaw → Option Flaw → Option Flaw
earlier_of None other = other
earlier_of (Some flaw) other = Some (earlier_flaw_of flaw other)
