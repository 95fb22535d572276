-- What a walk along the cells of a region has before it, and what becomes of it in a step.
use Rattle.std.specs.Prelude.{◌≡◌, ℕ, ◌+◌, ◌≤◌, List, ◌∷◌}
use Rattle.page_space.specs.Extents.{Space}
use Rattle.cell_layout.specs.Cells.{IsRow}
use Rattle.heap_model.specs.Types.{Cell}
use Rattle.heap_walk.specs.declared.cells.Cells.{Cells}
use Rattle.heap_walk.specs.Limits.{EndsBy}
use Rattle.heap_walk.specs.Standing.{StandsAt}

-- From an address these cells stand one after another, to the end of a row that ends by the limit.
pub record StandAhead (space : Space) (words : List ℕ) (at limit row_end : ℕ) (cells : List Cell) : Type 0 where
  pub stand : IsRow space words at row_end cells
  pub ends : EndsBy words limit row_end

-- The cell is the first of these, and the others stand after it.
pub record IsNext (space : Space) (words : List ℕ) (at limit row_end : ℕ) (cells : List Cell) (cell : Cell)
    : Type 0 where
  pub more : List Cell
  pub are : cells ≡ cell ∷ more
  pub stands : StandsAt space words at cell
  pub ahead : StandAhead space words (at + cell.size) limit row_end more

-- The walk steps past a cell, which has some words, and not past the limit.
pub record StepsPast (old new : Cells) (cell : Cell) : Type 0 where
  pub at : new.at ≡ old.at + cell.size
  pub some : 1 ≤ cell.size
  pub within : new.at ≤ old.limit
  pub limit : new.limit ≡ old.limit
