-- The cells of a heap in order of their addresses.
use Rattle.std.specs.Prelude.{◌≡◌, ℕ, ◌≤◌, ◌<◌, List}
use Rattle.heap_model.specs.Types.{Cell}
use Rattle.heap_model.specs.Heaps.{Heap, HasCell, words_of_cell}

-- no cell of the heap stands at the address or behind it
abbrev pub HasNoCellFrom : Heap → ℕ → Type 0
HasNoCellFrom heap least = (cell : Cell) (words : List ℕ) → HasCell heap cell words → cell.at < least

-- no cell of the heap stands at the address
abbrev pub HasNoCellAt : Heap → ℕ → Type 0
HasNoCellAt heap at = (cell : Cell) (words : List ℕ) → HasCell heap cell words → cell.at ≡ at → ⊥

-- the cell is the first of the heap that stands at the address or behind it
pub record IsFirstCell (heap : Heap) (least : ℕ) (cell : Cell) : Type 0 where
  pub has : HasCell heap cell (words_of_cell heap cell)
  pub reached : least ≤ cell.at
  pub first : (other : Cell) (words : List ℕ) → HasCell heap other words → least ≤ other.at → cell.at ≤ other.at

-- of the cells between two addresses, none stands at another or behind it
abbrev pub HasNoCellOf : Heap → ℕ → ℕ → ℕ → Type 0
HasNoCellOf heap start end least =
    (cell : Cell) (words : List ℕ) → HasCell heap cell words → start ≤ cell.at → cell.at < end → cell.at < least
