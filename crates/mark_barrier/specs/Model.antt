-- What the grey cells that wait with the mutator keep in their fields.
use Rattle.mark_barrier.specs.Waiting.{Waiting}
use Rattle.mark_barrier.specs.declared.grey_cells.GreyCells.TheInside.{Inside}

-- the cells that are listed, and those that were passed over
abbrev pub waiting_in : Inside → Waiting
waiting_in grey = record { list = grey.list; passed = grey.passed }
