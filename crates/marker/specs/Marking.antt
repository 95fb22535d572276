-- What a marker is to its callers, and what a run of turns comes to.
use Rattle.std.specs.Prelude.{◌≡◌, ◌≢◌, ℕ, ◌≤◌, List, [], ◌++◌}
use Rattle.core_parts.specs.declared.note.Note.{Note}
use Rattle.marker.specs.declared.marking.Outcome.{Outcome}
use Rattle.marker.specs.declared.marking.Outcome.TheVariants.{Spent, Drained}
use Rattle.marker.specs.Turns.{LooksEverywhere, LooksOnce, looks, turns}

-- Why a run of turns stops, by its new notes: it is drained where no cell waits, and the last looks found nothing at
-- each place; else as many turns were made as there might be.
abbrev pub Stops : List Note → List ℕ → ℕ → Outcome → Type 0
Stops new listed most Drained = (turns new ≤ most) × (listed ≡ []) × LooksEverywhere (looks new)
Stops new listed most (Spent made) = (made ≡ most) × (turns new ≡ most) × (LooksEverywhere (looks new) → ⊥)

-- A log gained the notes of a run of turns that stops so, in which no place is looked at twice without a visit between.
-- Where the last looks found nothing, no cell waits.
pub record IsMarked (before after : List Note) (listed : List ℕ) (most : ℕ) (outcome : Outcome) : Type 0 where
  pub new : List Note
  pub is : after ≡ before ++ new
  pub once : LooksOnce [] new
  pub none_waits : looks new ≢ [] → listed ≡ []
  pub stops : Stops new listed most outcome
