-- A store or a table that was made.
use Rattle.std.proofs.Common.{◌≡◌, ℕ, ◌+◌, ◌≤◌, ◌<◌, Some, IsTrue, List, slice_get, refl, ◌∙◌, ap, arith}
use Rattle.tagged_word.specs.declared.layout.Kind.TheVariants as kind
use Rattle.tagged_word.specs.Headers.{IsHeader, header_bits}
use Rattle.tagged_word.specs.Layouts.{IsLayout, layout_bits}
use Rattle.tagged_word.specs.Shapes.{shapes_most}
use Rattle.tagged_word.specs.Cells.{store_head, cell_words_most, cell_size, has_length, length_by, length_offset}
use Rattle.shape_tree.specs.ShapeLayouts.{layout_word}
use Rattle.heap_model.specs.Types.{Path, Cell}
use Rattle.cell_layout.specs.Cells.{IsCell}
use Rattle.heap_model.specs.Heaps.{Heap}
use Rattle.heap_model.specs.Kinds.{HasNoNumber}
use Rattle.heap_model.specs.Wholeness.{HasSizes}
use Rattle.object_cells.specs.Formats.{store_header}
use Rattle.object_cells.proofs.RunCells.{bare_layout, size_is, AreOfRegion, run_cell}

-- the cell of a store of so many slots
abbrev pub store_cell : ℕ → ℕ → Cell
store_cell at capacity = record {
  at = at;
  header = store_header;
  layout = bare_layout kind.Store;
  length = capacity;
  size = store_head + capacity;
}

-- A cell of a kind that has a length and no object, where its header and its length stand.
pub record IsLongCell (cell : Cell) : Type 0 where
  pub is_header : IsHeader cell.header
  pub known : cell.header.shape < shapes_most
  pub is_layout : IsLayout cell.layout
  pub laid : (paths : List Path) → layout_word paths cell.header.shape ≡ layout_bits cell.layout
  pub long : IsTrue (has_length cell.layout.kind)
  pub sized : cell_size cell.layout cell.length ≡ Some cell.size
  pub some : 1 ≤ cell.size
  pub no_number : HasNoNumber cell

-- as that of a store is
pub store_is_long : (at capacity : ℕ) → store_head + capacity ≤ cell_words_most → IsLongCell (store_cell at capacity)
store_is_long at capacity few = record {
  is_header = record { shape = omega arith; object = omega arith };
  known = omega arith;
  is_layout = record { cap = refl; used = refl; raw = refl };
  laid = λ paths. refl;
  long = refl;
  sized = size_is (store_head + capacity) (omega arith) few;
  some = omega arith;
  no_number = refl;
}

-- it stands where its header and its length do, in words of one region
pub long_cell : (heap : Heap) (cell : Cell) → HasSizes heap → IsLongCell cell
    → slice_get heap.words cell.at ≡ Some (header_bits cell.header)
    → slice_get heap.words (cell.at + length_offset) ≡ Some cell.length
    → AreOfRegion heap.space cell.at (cell.at + cell.size) → IsCell heap.space heap.words cell
long_cell heap cell sized is header counted region =
    run_cell heap cell sized (record {
      is_header = is.is_header;
      known = is.known;
      is_layout = is.is_layout;
      laid = is.laid heap.paths;
      sized = is.sized;
      some = is.some;
      first = header;
      second = ap (λ t. length_by t (slice_get heap.words (cell.at + length_offset))) is.long ∙ counted;
    }) region
