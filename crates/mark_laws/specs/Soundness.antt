-- A sound world stays sound.
use Rattle.mark_laws.specs.Types.{Event, World}
use Rattle.mark_world.specs.AfterEvents.{after, Possible}
use Rattle.mark_world.specs.Soundness.{Sound}
use Rattle.mark_world.specs.BornCells.{Born}

-- a world that is sound, and where marking reaches only born cells, is so after each possible event
abbrev pub SoundStays : Type 0
SoundStays =
    (world : World) (event : Event) → Sound world → Born world → Possible world event
    → Sound (after world event) × Born (after world event)
