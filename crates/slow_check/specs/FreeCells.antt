-- Rows of free runs, row by row.
use Rattle.std.specs.Prelude.{List, Contains}
use Rattle.heap_model.specs.Types.{Run}
use Rattle.heap_model.specs.Heaps.{Heap}
use Rattle.heap_model.specs.Collectable.{IsFreeCell}

-- each of these runs is one free cell of a page
abbrev pub AreFreeCells : Heap → List Run → Type 0
AreFreeCells heap row = (run : Run) → Contains row run → IsFreeCell heap run
