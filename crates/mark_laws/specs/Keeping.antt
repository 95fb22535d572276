-- What is covered stays covered, and so do the tagged slots of black cells, and what the mutator is sure of.
use Rattle.std.specs.Prelude.{ℕ}
use Rattle.mark_laws.specs.Types.{Event, World}
use Rattle.mark_world.specs.AfterEvents.{after, Possible}
use Rattle.mark_world.specs.Coverage.{IsCovered}
use Rattle.mark_world.specs.Soundness.{HasBlack, HasCells, HasLists, HasSizes, HasSnaps, HasSure}
use Rattle.mark_world.specs.BornCells.{Born}

-- a cell that is covered is covered after each possible event
abbrev pub CoveredStays : Type 0
CoveredStays =
    (world : World) (event : Event) → HasSizes world → HasCells world → HasLists world → Born world
    → Possible world event
    → (at : ℕ) → IsCovered world at → IsCovered (after world event) at

-- after each possible event the mutator is sure only of what is covered, and that and what it owes is born
abbrev pub SureStays : Type 0
SureStays =
    (world : World) (event : Event) → HasSizes world → HasCells world → HasLists world → HasSure world → HasBlack world
    → Born world → Possible world event → HasSure (after world event)

-- after each possible event the tagged slots of black free starts are covered
abbrev pub BlackStays : Type 0
BlackStays =
    (world : World) (event : Event) → HasSizes world → HasCells world → HasLists world → HasSure world → HasBlack world
    → HasSnaps world → Born world → Possible world event → HasBlack (after world event)
