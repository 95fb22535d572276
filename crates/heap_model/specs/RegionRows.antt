-- The regions of cells and their used rows, by the addresses at which they begin.
use Rattle.std.specs.Prelude.{◌≡◌, ℕ, ◌+◌, Contains}
use Rattle.page_space.specs.Extents.{Space, Extent}
use Rattle.heap_model.specs.Heaps.{Heap, Row, IsUsedRow, cell_extents}

-- a region of cells stands from the first address to the one behind it
pub record StandsBetween (space : Space) (start end : ℕ) : Type 0 where
  pub extent : Extent
  pub among : Contains (cell_extents space) extent
  pub starts : extent.start ≡ start
  pub ends : extent.start + extent.words ≡ end

-- the used row of the region that begins at an address
pub record IsRowFrom (heap : Heap) (start : ℕ) (row : Row) : Type 0 where
  pub among : Contains (cell_extents heap.space) row.extent
  pub starts : row.extent.start ≡ start
  pub used : IsUsedRow heap row
