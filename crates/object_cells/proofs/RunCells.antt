-- A cell of a fixed kind that was made in words of one region.
use Rattle.std.proofs.Common.{◌≡◌, ℕ, ◌+◌, ◌≤◌, ◌<◌, Some, None, true, nat_le, cond, ◌&&◌, slice_get}
use Rattle.std.proofs.Common.{◌∙◌, ap, arith}
use Rattle.std.proofs.lemmas.Bool.Decides.{nat_tests}
use Rattle.heap_model.specs.Types.{Kind, LayoutWord, Cell}
use Rattle.tagged_word.specs.Headers.{IsHeader, header_bits}
use Rattle.tagged_word.specs.Layouts.{IsLayout, layout_bits}
use Rattle.tagged_word.specs.Shapes.{shapes_most}
use Rattle.tagged_word.specs.Cells.{cell_words_most, cell_size, size_within, has_length, length_by}
use Rattle.page_space.specs.Extents.{Space, CellsEndAt, segments_start}
use Rattle.page_space.proofs.Starts.{roots_start_is, layouts_start_is, marks_start_is}
use Rattle.shape_tree.specs.ShapeLayouts.{layout_word}
use Rattle.cell_layout.specs.Cells.{IsCell}
use Rattle.cell_layout.proofs.CellsThere.{slice_get-layouts_in}
use Rattle.heap_model.specs.Heaps.{Heap}
use Rattle.heap_model.specs.Wholeness.{HasSizes}

-- the layout of cells of a kind without in-object slots
abbrev pub bare_layout : Kind → LayoutWord
bare_layout k = record { kind = k; cap = 0; used = 0; raw = 0 }

-- so many words make a size
pub size_is : (words : ℕ) → 1 ≤ words → words ≤ cell_words_most → size_within 1 words ≡ Some words
size_is words some few =
    let test : (nat_le 1 words && nat_le words cell_words_most) ≡ true = grind (arith, nat_tests) in
    ap (λ t. cond t (Some words) None) test

-- The words from an address up to another are of one region of cells before the segments.
pub record AreOfRegion (space : Space) (from to : ℕ) : Type 0 where
  pub end : ℕ
  pub ends : to ≤ end
  pub below : to ≤ segments_start space
  pub each : (at : ℕ) → from ≤ at → at < to → CellsEndAt space at end

-- so are those between
pub between : {space : Space} {from to : ℕ} (a b : ℕ) → AreOfRegion space from to → from ≤ a → b ≤ to
    → AreOfRegion space a b
between a b are from below = record {
  end = are.end;
  ends = omega (arith, are.ends, below);
  below = omega (arith, are.below, below);
  each = λ at above before. are.each at (omega (arith, from, above)) (omega (arith, before, below));
}

-- The words at the address of a cell are its header, and its length where it has one.
pub record IsHeaded (heap : Heap) (cell : Cell) : Type 0 where
  pub is_header : IsHeader cell.header
  pub known : cell.header.shape < shapes_most
  pub is_layout : IsLayout cell.layout
  pub laid : layout_word heap.paths cell.header.shape ≡ layout_bits cell.layout
  pub sized : cell_size cell.layout cell.length ≡ Some cell.size
  pub some : 1 ≤ cell.size
  pub first : slice_get heap.words cell.at ≡ Some (header_bits cell.header)
  pub second : length_by (has_length cell.layout.kind) (slice_get heap.words (cell.at + 1)) ≡ Some cell.length

-- then it stands there, where its words are of one region
pub run_cell : (heap : Heap) (cell : Cell) → HasSizes heap → IsHeaded heap cell
    → AreOfRegion heap.space cell.at (cell.at + cell.size) → IsCell heap.space heap.words cell
run_cell heap cell sized is region =
    let space = heap.space in
    record {
      end = region.end;
      stands = region.each cell.at (omega arith) (omega (arith, is.some));
      reads = record {
        is_header = is.is_header;
        first = is.first;
        known = is.known;
        is_layout = is.is_layout;
        of_shape = slice_get-layouts_in space heap.words cell.header.shape is.known
            ∙ sized.layouts cell.header.shape is.known ∙ ap (λ word. Some word) is.laid;
        second = is.second;
        sized = is.sized;
        ends = region.ends;
        there = omega (
          arith,
          region.below,
          sized.words,
          roots_start_is space,
          layouts_start_is space,
          marks_start_is space,
        );
      };
    }
