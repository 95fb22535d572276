-- Layout words, and walks along a row of cells: where one may end, and when it goes on.
use Rattle.std.specs.Prelude.{◌≡◌, ℕ, ◌+◌, ◌≤◌, ◌<◌, ◌⊎◌, List, IsTrue}
use Rattle.std.specs.Prelude.{Some, slice_get}
use Rattle.tagged_word.specs.Shapes.{shapes_most}
use Rattle.page_space.specs.Extents.{layouts_start}
use Rattle.shape_tree.specs.ShapeLayouts.{layout_word}
use Rattle.heap_model.specs.Types.{Cell}
use Rattle.cell_layout.specs.Cells.{IsCell, IsRow}
use Rattle.heap_model.specs.Heaps.{Heap}
use Rattle.heap_check.specs.declared.region_rows.Bound.{Bound}

-- the layout words are those of the shapes in use, and else 0
abbrev pub HasLayoutWords : Heap → Type 0
HasLayoutWords heap =
    (shape : ℕ) → shape < shapes_most
    → slice_get heap.words (layouts_start heap.space + shape) ≡ Some (layout_word heap.paths shape)

-- a row may end there: at its limit, or where it may be blank and the word is 0
abbrev pub Stops : Heap → Bound → ℕ → Type 0
Stops heap bound end =
    (end ≡ bound.limit) ⊎ (IsTrue bound.blank × (slice_get heap.words end ≡ Some 0))

-- cells in a row from one address to another, where it may end
pub record IsWalk (heap : Heap) (bound : Bound) (from end : ℕ) (cells : List Cell) : Type 0 where
  pub row : IsRow heap.space heap.words from end cells
  pub within : end ≤ bound.limit
  pub stops : Stops heap bound end

-- the cell stands at the address, and ends before the limit or there
pub record WalkContinues (heap : Heap) (bound : Bound) (at : ℕ) (cell : Cell) : Type 0 where
  pub starts : cell.at ≡ at
  pub is_cell : IsCell heap.space heap.words cell
  pub some : 1 ≤ cell.size
  pub within : at + cell.size ≤ bound.limit
