-- A sound world is sound at each moment of events that were possible.
use Rattle.std.proofs.Common.{ℕ, ◌≤◌, List, length, subst, sym}
use Rattle.mark_laws.specs.Types.{Event, World}
use Rattle.mark_world.specs.AfterEvents.{WerePossible, moment}
use Rattle.mark_laws.specs.Runs.{IsSoundAndBorn}
use Rattle.mark_laws.proofs.Moments.{at_each, next_moment}
use Rattle.mark_laws.proofs.SoundWorlds.{sound_stays}

-- a world that is sound, and where marking reaches only born cells, stays so
pub whole_along : (start : World) (events : List Event) (count : ℕ) → IsSoundAndBorn start → count ≤ length events
    → WerePossible start events count → (k : ℕ) → k ≤ count → IsSoundAndBorn (moment start events k)
whole_along start events count whole within were =
    at_each events count (λ k. IsSoundAndBorn (moment start events k)) within whole (λ k of early there before.
    subst IsSoundAndBorn (sym (next_moment start events k of there))
    (sound_stays (moment start events k) of before.0 before.1 (were k of early there)))
