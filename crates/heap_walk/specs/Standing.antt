-- Which cell stands at an address.
use Rattle.std.specs.Prelude.{◌≡◌, ℕ, List}
use Rattle.page_space.specs.Extents.{Space}
use Rattle.cell_layout.specs.Cells.{IsCell}
use Rattle.heap_model.specs.Types.{Cell}

-- the words read as the cell at the address
pub record StandsAt (space : Space) (words : List ℕ) (at : ℕ) (cell : Cell) : Type 0 where
  pub is_cell : IsCell space words cell
  pub stands : cell.at ≡ at
