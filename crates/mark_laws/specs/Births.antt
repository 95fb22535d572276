-- Marking reaches only cells that are born.
use Rattle.mark_laws.specs.Types.{Event, World}
use Rattle.mark_world.specs.AfterEvents.{after, Possible}
use Rattle.mark_world.specs.Soundness.{HasCells, HasLists, HasSizes, HasSnaps, HasSure}
use Rattle.mark_world.specs.BornCells.{Born}

-- What is reached, what slots of born cells and of snaps refer to, and what is to be visited is born after each
-- possible event.
abbrev pub BornStays : Type 0
BornStays =
    (world : World) (event : Event) → HasSizes world → HasCells world → HasLists world → HasSure world → HasSnaps world
    → Born world → Possible world event → Born (after world event)
