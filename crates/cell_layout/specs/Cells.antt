-- The cell at an address, and rows of cells.
use Rattle.std.specs.Prelude.{◌≡◌, ℕ, ◌+◌, List, [], ◌∷◌, Some, length, min, take, drop, slice_get, unwrap_or}
use Rattle.tagged_word.specs.declared.layout.LayoutWord.{LayoutWord}
use Rattle.tagged_word.specs.declared.reading.Reading.{Reading}
use Rattle.tagged_word.specs.Shapes.{shapes_most}
use Rattle.tagged_word.specs.Layouts.{IsLayout, layout_bits}
use Rattle.tagged_word.specs.Cells.{ReadsAs, cell_size}
use Rattle.page_space.specs.Extents.{Space, CellsEndAt, layouts_start}
use Rattle.cell_layout.specs.declared.cell.Cell.{Cell}
use Rattle.cell_layout.specs.declared.cell.NotACell.{NotACell}

-- the layout words of all shapes, by their numbers
unfoldable pub layouts_in : Space → List ℕ → List ℕ
layouts_in space words = take shapes_most (drop (layouts_start space) words)

-- the layout of a shape
pub record IsLayoutOf (space : Space) (words : List ℕ) (shape : ℕ) (layout : LayoutWord) : Type 0 where
  pub is_layout : IsLayout layout
  pub of_shape : slice_get (layouts_in space words) shape ≡ Some (layout_bits layout)

-- a cell may stand at the address, and so many words are there before its end and that of the words
pub record HasWordsUpTo (space : Space) (words : List ℕ) (at room : ℕ) : Type 0 where
  pub end : ℕ
  pub stands : CellsEndAt space at end
  pub ends : at + room ≡ min end (length words)

-- what is read of a cell: all but its address
abbrev pub reading_of : Cell → Reading
reading_of cell = record { header = cell.header; layout = cell.layout; length = cell.length; size = cell.size }

-- The cell stands at its address in a page, in eden or in a segment, and ends there: these words read as its header,
-- its layout, its length and its size.
pub record IsCell (space : Space) (words : List ℕ) (cell : Cell) : Type 0 where
  pub end : ℕ
  pub stands : CellsEndAt space cell.at end
  pub reads : ReadsAs words (layouts_in space words) cell.at end (reading_of cell)

-- the cell has a layout, and the size that it gives at the cell's length
pub record IsSized (cell : Cell) : Type 0 where
  pub is_layout : IsLayout cell.layout
  pub sized : cell_size cell.layout cell.length ≡ Some cell.size

-- no cell stands at the address
abbrev pub HasNoCell : Space → List ℕ → ℕ → Type 0
HasNoCell space words at = (cell : Cell) → cell.at ≡ at → IsCell space words cell → ⊥

-- no cell stands at the address, and this tells the word there: 0 behind the last
pub record IsNoCell (space : Space) (words : List ℕ) (at : ℕ) (not_a_cell : NotACell) : Type 0 where
  pub none : HasNoCell space words at
  pub address : not_a_cell.at ≡ at
  pub found : not_a_cell.word ≡ unwrap_or (slice_get words at) 0

-- a row of cells from an address to another: each begins where the one before ends
pub data IsRow (space : Space) (words : List ℕ) : ℕ → ℕ → List Cell → Type 0 where
  none : (at : ℕ) → IsRow space words at at []
  next : (cell : Cell) (end : ℕ) (cells : List Cell) → IsCell space words cell
      → IsRow space words (cell.at + cell.size) end cells → IsRow space words cell.at end (cell ∷ cells)

-- a row of so many cells
pub record IsRowOfSome (space : Space) (words : List ℕ) (from to many : ℕ) : Type 0 where
  pub cells : List Cell
  pub row : IsRow space words from to cells
  pub as_many : length cells ≡ many
