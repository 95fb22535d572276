-- What is read of a heap, and what reading leaves.
use Rattle.std.specs.Prelude.{◌≡◌, ℕ, List, Some}
use Rattle.heap_model.specs.Types.{Header, Cell}
use Rattle.tagged_word.specs.Readings.{header_at}
use Rattle.heap_model.specs.Heaps.{Heap, HasCell}

-- a header stands at the address
pub record HasHeader (heap : Heap) (at : ℕ) : Type 0 where
  pub header : Header
  pub stands : header_at heap.words at ≡ Some header

-- it is the header of the cell at the address
abbrev pub IsHeaderAt : Heap → ℕ → Header → Type 0
IsHeaderAt heap at header =
    (cell : Cell) (words : List ℕ) → HasCell heap cell words → cell.at ≡ at → cell.header ≡ header
