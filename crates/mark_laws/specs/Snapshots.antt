-- What helpers have read of grey cells stays true to them.
use Rattle.mark_laws.specs.Types.{Event, World}
use Rattle.mark_world.specs.AfterEvents.{after, Possible}
use Rattle.mark_world.specs.Soundness.{HasCells, HasLists, HasSizes, HasSnaps, HasSure}
use Rattle.mark_world.specs.BornCells.{Born}

-- each snap of a grey cell is true to it after each possible event
abbrev pub SnapsStay : Type 0
SnapsStay =
    (world : World) (event : Event) → HasSizes world → HasCells world → HasLists world → HasSure world → HasSnaps world
    → Born world → Possible world event → HasSnaps (after world event)
