-- Where a run of events stops before its end.
use Rattle.std.specs.Prelude.{◌≡◌, ℕ, List, slice_get, Some}
use Rattle.mark_laws.specs.Types.{StepStop, Event, World}
use Rattle.core_parts.specs.declared.stop.StepStop.TheVariants.{NotEnabled, NoMemory}
use Rattle.mark_world.specs.AfterEvents.{Possible, WerePossible, moment}

-- those before the event of a number were possible, each at its moment, and it is not
pub record IsFirstImpossible (start : World) (events : List Event) (at : ℕ) : Type 0 where
  pub before : WerePossible start events at
  pub event : Event
  pub there : slice_get events at ≡ Some event
  pub impossible : Possible (moment start events at) event → ⊥

-- the stop tells the first event that is not possible; want of memory tells nothing of the events
abbrev pub StopsThere : World → List Event → StepStop → Type 0
StopsThere start events (NotEnabled at) = IsFirstImpossible start events at
StopsThere start events (NoMemory refusal) = Unit {0}
