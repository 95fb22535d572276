-- The mutator's part, but for the cells that it is making or changing, along lists of events.
use Rattle.std.proofs.Common.{ℕ, List, [], ◌∷◌}
use Rattle.mark_laws.specs.Types.{Event, World}
use Rattle.mark_world.specs.AfterEvents.{after, after_all}
use Rattle.mark_world.specs.Unfinished.{EachSpares, SettlingBut, made_after, made_after_all}
use Rattle.mark_laws.specs.Runs.{IsSoundAndBorn}
use Rattle.mark_laws.proofs.SettlingSteps.{settling_stays}
use Rattle.mark_laws.proofs.SoundWorlds.{sound_stays}

-- the mutator's part stays under way but for these cells along a list of events from a whole world
pub settling_along : (world : World) (made : List ℕ) (events : List Event) → IsSoundAndBorn world
    → SettlingBut world made
    → EachSpares world made events → SettlingBut (after_all world events) (made_after_all made events)
settling_along world made [] whole has spare = has
settling_along world made (of ∷ rest) whole has spare =
    settling_along (after world of) (made_after made of) rest (sound_stays world of whole.0 whole.1 spare.0)
    (settling_stays world made of whole.0.cells has spare.0 spare.1) spare.2
