-- What stays through every event, and what only rises.
use Rattle.std.specs.Prelude.{◌≤◌, ℕ}
use Rattle.mark_laws.specs.Types.{Event, World}
use Rattle.mark_world.specs.AfterEvents.{after, Possible}
use Rattle.mark_world.specs.Coverage.{colour_of}
use Rattle.mark_world.specs.Soundness.{HasCells, HasGrey, HasLists, HasSizes}
use Rattle.mark_world.specs.BornCells.{Born}

-- no event makes a cell's colour lighter
abbrev pub ColoursRise : Type 0
ColoursRise =
    (world : World) (event : Event) → HasSizes world → (at : ℕ) → colour_of world at ≤ colour_of (after world event) at

-- a possible event leaves the sizes right
abbrev pub SizesStay : Type 0
SizesStay =
    (world : World) (event : Event) → HasSizes world → HasLists world → Possible world event
    → HasSizes (after world event)

-- a possible event leaves the cells right
abbrev pub CellsHold : Type 0
CellsHold =
    (world : World) (event : Event) → HasSizes world → HasCells world → HasLists world → Possible world event
    → HasCells (after world event)

-- a possible event leaves the lists right
abbrev pub ListsStay : Type 0
ListsStay =
    (world : World) (event : Event) → HasSizes world → HasCells world → HasLists world → Born world
    → Possible world event
    → HasLists (after world event)

-- after a possible event each grey published cell waits
abbrev pub GreysWait : Type 0
GreysWait =
    (world : World) (event : Event) → HasSizes world → HasCells world → HasLists world → HasGrey world
    → Possible world event → HasGrey (after world event)
