-- What is written when one object changes: words of its own cells, words of the run in which cells are made, and layout
-- words.
use Rattle.std.specs.Prelude.{◌≡◌, ℕ, ◌+◌, ◌<◌, ◌≤◌, ◌⊎◌, false, List, ◌∷◌, ◌++◌, Contains, Some}
use Rattle.std.specs.Prelude.{slice_get, IsTrue}
use Rattle.heap_model.specs.Types.{Kind, Path, Cell}
use Rattle.tagged_word.specs.declared.layout.Kind.TheVariants as kind
use Rattle.tagged_word.specs.Headers.{header_bits}
use Rattle.tagged_word.specs.Cells.{has_length, length_offset, is_object_kind}
use Rattle.page_space.specs.Extents.{layouts_start}
use Rattle.shape_tree.specs.Shapes.{IsPathShape, shape_path}
use Rattle.shape_tree.specs.ShapeLayouts.{layout_of}
use Rattle.cell_layout.specs.Cells.{IsRow}
use Rattle.heap_model.specs.Heaps.{Heap, HasCell, words_of_cell}
use Rattle.heap_model.specs.Wholeness.{Whole, HasSizes, HasRows, IsOwnedKind}
use Rattle.heap_model.specs.Changes.{IsRunOf, CellsChange}

-- the cell with another shape in its header, and so another layout
abbrev pub reshaped : List Path → Cell → ℕ → Cell
reshaped paths cell shape = record cell {
  header = record cell.header { shape = shape };
  layout = layout_of (shape_path paths shape);
}

-- the address is in the cell
pub record IsInCell (at : ℕ) (cell : Cell) : Type 0 where
  pub from : cell.at ≤ at
  pub below : at < cell.at + cell.size

-- a cell of this kind or a box of the old heap, of which neither the header nor the length changed
pub record IsWrittenOfKind (owned : Kind) (old new : Heap) (other : Cell) : Type 0 where
  pub stood : HasCell old other (words_of_cell old other)
  pub of_kind : (other.layout.kind ≡ owned) ⊎ (other.layout.kind ≡ kind.Boxed)
  pub header : slice_get new.words other.at ≡ slice_get old.words other.at
  pub length : other.layout.kind ≡ owned
      → slice_get new.words (other.at + length_offset) ≡ slice_get old.words (other.at + length_offset)

-- Objects of the first kind, whose cells have no length, own cells of the other, which have one.
pub record Owns (owner owned : Kind) : Type 0 where
  pub object : IsTrue (is_object_kind owner)
  pub short : has_length owner ≡ false
  pub belongs : IsOwnedKind owned
  pub long : IsTrue (has_length owned)

-- The plain object's cell has the header of the other cell's shape, whose path has the same cap.
pub record IsReshaped (new : Heap) (cell came : Cell) : Type 0 where
  pub plain : cell.layout.kind ≡ kind.Plain
  pub is : came ≡ reshaped new.paths cell came.header.shape
  pub is_shape : IsPathShape new.paths came.header.shape
  pub cap : (shape_path new.paths came.header.shape).cap ≡ cell.layout.cap
  pub header : slice_get new.words cell.at ≡ Some (header_bits came.header)

-- What an object's cell becomes: itself, with the header that it had; or, a plain object's, that of another shape.
pub data Becomes (old new : Heap) (cell came : Cell) : Type 0 where
  itself : came ≡ cell → slice_get new.words cell.at ≡ slice_get old.words cell.at → Becomes old new cell came
  other_shape : IsReshaped new cell came → Becomes old new cell came

-- Of the words before the layout words only those of the cell of an object of the kind `owner` have changed, which is
-- the same or has another shape then, those of these cells of the kind `owned` but their headers and lengths, integers
-- of these boxes, and words of the run in which cells were made; and layout words of shapes that are new.
pub record WritesOwnCells (owner owned : Kind) (old new : Heap) (cell came : Cell) (others made : List Cell)
    : Type 0 where
  pub same_space : new.space ≡ old.space
  pub same_survivors : new.survivors ≡ old.survivors
  pub room : new.survivors + new.used ≤ new.space.sizes.young
  pub more : List Path
  pub paths : new.paths ≡ old.paths ++ more
  pub sized : HasSizes new
  pub stood : HasCell old cell (words_of_cell old cell)
  pub of_kind : cell.layout.kind ≡ owner
  pub becomes : Becomes old new cell came
  pub beside : (other : Cell) → Contains others other → IsWrittenOfKind owned old new other
  pub from : ℕ
  pub to : ℕ
  pub run : IsRunOf old new from to
  pub made_stand : IsRow new.space new.words from to made
  pub stay : (at : ℕ) → at < layouts_start old.space → (IsInCell at cell → ⊥)
      → ((other : Cell) → Contains others other → IsInCell at other → ⊥) → (from ≤ at → at < to → ⊥)
      → slice_get new.words at ≡ slice_get old.words at

-- Then cells stand in rows again: what the object's became, the others as they were, those that were made, and all
-- else as before.
abbrev pub WritesKeepCells : Type 0
WritesKeepCells =
    (owner owned : Kind) (old new : Heap) (cell came : Cell) (others made : List Cell) → Owns owner owned → Whole old
    → WritesOwnCells owner owned old new cell came others made
    → HasRows new × CellsChange old new (cell ∷ others) (came ∷ others) made
