-- What the cells of a heap hold.
use Rattle.std.specs.Prelude.{ℕ, List}
use Rattle.heap_model.specs.Types.{Cell}
use Rattle.heap_model.specs.Heaps.{Heap, HasCell}
use Rattle.heap_model.specs.Kinds.{IsSoundCell}

-- the words of each cell are what its kind has
abbrev pub HasSoundCells : Heap → Type 0
HasSoundCells heap = (cell : Cell) (words : List ℕ) → HasCell heap cell words → IsSoundCell heap cell words
