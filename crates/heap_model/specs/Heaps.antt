-- A heap between two commands: its words, what of them is used, and the cells that stand there.
use Rattle.std.specs.Prelude.{◌≡◌, ℕ, ◌+◌, ◌-◌, ◌≤◌, List, map, All, Contains, sum_by, slice_get}
use Rattle.std.specs.Prelude.{slice_range, Some, ◌⊎◌}
use Rattle.heap_model.specs.Types.{Path, Region, Cell}
use Rattle.page_space.specs.declared.region.Region.TheVariants.{Page, Eden, Segment}
use Rattle.page_space.specs.Extents.{Space, Extent, cell_stretches, extents_from}
use Rattle.cell_layout.specs.Cells.{IsRow}

-- The words of pages, eden, segments, roots and layout words; how many words of eden are used; how many words the
-- survivors in the segments have; and the field paths, which are the shapes.
pub record Heap : Type 0 where
  pub space : Space
  pub used : ℕ
  pub survivors : ℕ
  pub paths : List Path
  pub words : List ℕ

-- where the regions of cells stand
abbrev pub cell_extents : Space → List Extent
cell_extents space = extents_from 0 (cell_stretches space)

-- a row of cells: the region in which it stands, the address behind it, and its cells
pub record Row : Type 0 where
  pub extent : Extent
  pub end : ℕ
  pub cells : List Cell

-- A page is used whole, and eden as far as its used words go. A segment is used up to the first place of a cell that
-- holds 0, or to its end.
abbrev pub EndsUsed : Heap → Extent → ℕ → Region → Type 0
EndsUsed heap extent end (Page page) = end ≡ extent.start + extent.words
EndsUsed heap extent end Eden = end ≡ extent.start + heap.used
EndsUsed heap extent end (Segment half worker) =
    (end ≤ extent.start + extent.words)
    × ((end ≡ extent.start + extent.words) ⊎ (slice_get heap.words end ≡ Some 0))
EndsUsed heap extent end _ = ⊥

-- the cells stand one behind another in the used part of the row's region
pub record IsUsedRow (heap : Heap) (row : Row) : Type 0 where
  pub ends : EndsUsed heap row.extent row.end row.extent.region
  pub stands : IsRow heap.space heap.words row.extent.start row.end row.cells

-- the rows of all regions of cells, in order
pub record AreRows (heap : Heap) (rows : List Row) : Type 0 where
  pub everywhere : map (λ row. row.extent) rows ≡ cell_extents heap.space
  pub each : All (IsUsedRow heap) rows

-- the words of survivors in a region
abbrev pub survivors_in : Row → Region → ℕ
survivors_in row (Segment half worker) = row.end - row.extent.start
survivors_in row _ = 0

-- the words of all survivors
abbrev pub survivors_of : List Row → ℕ
survivors_of rows = sum_by (λ row. survivors_in row row.extent.region) rows

-- the words of a cell, by offset
abbrev pub words_of_cell : Heap → Cell → List ℕ
words_of_cell heap cell = slice_range heap.words cell.at (cell.at + cell.size)

-- the cell stands in a row of the heap, and these are its words
pub record HasCell (heap : Heap) (cell : Cell) (words : List ℕ) : Type 0 where
  pub row : Row
  pub in_region : Contains (cell_extents heap.space) row.extent
  pub used : IsUsedRow heap row
  pub in_row : Contains row.cells cell
  pub words_are : words_of_cell heap cell ≡ words
