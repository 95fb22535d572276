-- Lists of events, one after the other.
use Rattle.std.specs.Prelude.{◌≡◌, ℕ, true, false, List, [], ◌∷◌, take, Some, slice_get}
use Rattle.scav_core.specs.declared.event.Event.{Event}
use Rattle.scav_core.specs.declared.world.World.{World}
use Rattle.scav_core.specs.Steps.{after}
use Rattle.scav_core.specs.Possible.{is_possible}

-- each event is possible when it comes
abbrev pub ArePossible : World → List Event → Type 0
ArePossible world [] = Unit {0}
ArePossible world (event ∷ events) = (is_possible world event ≡ true) × ArePossible (after world event) events

-- the world after all of them
abbrev pub after_all : World → List Event → World
after_all world [] = world
after_all world (event ∷ events) = after_all (after world event) events

-- the event of this number is the first that isn't possible
pub record StopsAt (start : World) (events : List Event) (at : ℕ) : Type 0 where
  pub event : Event
  pub there : slice_get events at ≡ Some event
  pub possible : ArePossible start (take at events)
  pub stops : is_possible (after_all start (take at events)) event ≡ false
