-- The walk from one cell of a heap on to the next.
use Rattle.std.specs.Prelude.{◌≡◌, ℕ, ◌+◌, ◌≤◌, ◌<◌, List, Contains}
use Rattle.page_space.specs.declared.region.Region.TheVariants.{Eden}
use Rattle.page_space.specs.Extents.{Extent, ContainsAddress, extents}
use Rattle.heap_model.specs.Types.{Cell}
use Rattle.heap_model.specs.Heaps.{Heap, Row, IsUsedRow, HasCell, cell_extents}
use Rattle.image_walk.specs.Finding.{IsFirstCell}

-- no cell of the heap reaches over the address, and it is not behind the used row of its region
pub record IsBoundary (heap : Heap) (at : ℕ) : Type 0 where
  pub apart : (cell : Cell) (words : List ℕ) → HasCell heap cell words → cell.at < at → cell.at + cell.size ≤ at
  pub reached : (row : Row) → Contains (cell_extents heap.space) row.extent → IsUsedRow heap row
      → ContainsAddress row.extent at
      → at ≤ row.end

-- the address is not one of eden's behind its used words
abbrev pub IsUsedAt : Heap → ℕ → Type 0
IsUsedAt heap at =
    (extent : Extent) → Contains (extents heap.space) extent → extent.region ≡ Eden → ContainsAddress extent at
    → at < extent.start + heap.used

-- the cell is the first that stands at the address or behind it, and the walk goes on behind it
pub record IsNextCell (heap : Heap) (least : ℕ) (cell : Cell) : Type 0 where
  pub first : IsFirstCell heap least cell
  pub onward : IsBoundary heap (cell.at + cell.size)
