-- Flags that tell where cells start, and walks along rows that set them.
use Rattle.std.specs.Prelude.{◌≡◌, ◌≢◌, ℕ, ◌<◌, Bool, true, List, Contains, length, Some, slice_get, All}
use Rattle.heap_model.specs.Types.{Cell}
use Rattle.cell_layout.specs.Cells.{IsRow}
use Rattle.heap_model.specs.Heaps.{Heap, Row, HasCell}
use Rattle.heap_model.specs.RegionRows.{IsRowFrom}
use Rattle.heap_check.specs.declared.region_rows.Bound.{Bound}
use Rattle.heap_check.specs.RegionRows.{IsZeroBetween}
use Rattle.heap_check.specs.Walks.{Stops, WalkContinues, IsWalk}

-- the flag of an address is set exactly where a cell of the heap starts there
pub record MarksStarts (heap : Heap) (starts : List Bool) : Type 0 where
  pub starts_there : (at : ℕ) → slice_get starts at ≡ Some true
      → (cell : Cell) × ((words : List ℕ) × HasCell heap cell words × (cell.at ≡ at))
  pub marked : (cell : Cell) (words : List ℕ) → HasCell heap cell words → slice_get starts cell.at ≡ Some true

-- the flags of these cells were set, and all others are as they were
pub record MarksCells (old new : List Bool) (cells : List Cell) : Type 0 where
  pub as_many : length new ≡ length old
  pub set : (cell : Cell) → Contains cells cell → slice_get new cell.at ≡ Some true
  pub others : (at : ℕ) → All (λ cell. cell.at ≢ at) cells → slice_get new at ≡ slice_get old at

-- a row of cells goes from an address to where it may end, and their flags were set
pub record MarksWalk (heap : Heap) (bound : Bound) (from end : ℕ) (old new : List Bool) : Type 0 where
  pub cells : List Cell
  pub walk : IsWalk heap bound from end cells
  pub marks : MarksCells old new cells

-- Cells stand in a row from an address to another, where the row may not end yet and no cell stands that ends within
-- the bound.
pub record BreaksWalk (heap : Heap) (bound : Bound) (from at : ℕ) : Type 0 where
  pub cells : List Cell
  pub row : IsRow heap.space heap.words from at cells
  pub before : at < bound.limit
  pub no_end : Stops heap bound at → ⊥
  pub no_cell : (cell : Cell) → WalkContinues heap bound at cell → ⊥

-- the region that begins at an address has a used row with 0 behind it, and the flags of its cells were set
pub record MarksRegion (heap : Heap) (start end row_end : ℕ) (old new : List Bool) : Type 0 where
  pub row : Row
  pub is : IsRowFrom heap start row
  pub ends : row.end ≡ row_end
  pub blank : IsZeroBetween heap row_end end
  pub marks : MarksCells old new row.cells
