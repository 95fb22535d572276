-- Cells of fixed shapes that come to stand in the words of an old cell: a store, a filler, a gap.
use Rattle.std.proofs.Common.{◌≡◌, ℕ, ◌+◌, ◌<◌, ◌≤◌, List, length}
use Rattle.std.proofs.Common.{Some, None, true, nat_le, cond, ◌&&◌, slice_get}
use Rattle.std.proofs.Common.{refl, sym, ◌∙◌, ap, subst, arith}
use Rattle.std.proofs.lemmas.Bool.Decides.{nat_tests}
use Rattle.tagged_word.specs.declared.layout.Kind.TheVariants as kind
use Rattle.tagged_word.specs.Headers.{IsHeader, header_bits}
use Rattle.tagged_word.specs.Layouts.{IsLayout, layout_bits}
use Rattle.tagged_word.specs.Shapes.{shapes_most}
use Rattle.tagged_word.specs.Cells.{has_length, length_by, cell_size, size_within, cell_words_most, store_head}
use Rattle.tagged_word.specs.Cells.{words_least, words_of}
use Rattle.tagged_word.proofs.Cells.{size_bounds}
use Rattle.page_space.specs.Extents.{Space, CellsEndAt}
use Rattle.shape_tree.specs.ShapeLayouts.{layout_word}
use Rattle.heap_model.specs.Types.{Cell}
use Rattle.cell_layout.specs.Cells.{IsCell}
use Rattle.cell_layout.proofs.CellsThere.{slice_get-layouts_in}
use Rattle.heap_model.specs.Heaps.{Heap, HasCell}
use Rattle.heap_model.specs.Wholeness.{HasSizes}
use Rattle.heap_model.proofs.CellsApart.{has_is_cell}
use Rattle.write_barrier.specs.MutatorState.{gap_header}
use Rattle.object_cells.proofs.NewStores.{store_cell}
use Rattle.object_cells.specs.Formats.{store_header}
use Rattle.write_barrier.specs.FreeCells.{filler_header}

-- the cell of a filler
abbrev pub filler_cell : ℕ → Cell
filler_cell at = record {
  at = at;
  header = filler_header;
  layout = record { kind = kind.Filler; cap = 0; used = 0; raw = 0 };
  length = 0;
  size = 1;
}

-- the cell of a gap of so many words
abbrev pub gap_cell : ℕ → ℕ → Cell
gap_cell at count = record {
  at = at;
  header = gap_header;
  layout = record { kind = kind.Gap; cap = 0; used = 0; raw = 0 };
  length = count;
  size = count;
}

-- so many words make a size
sized_within : (least words : ℕ) → least ≤ words → words ≤ cell_words_most → size_within least words ≡ Some words
sized_within least words some few =
    let test : (nat_le least words && nat_le words cell_words_most) ≡ true = grind (arith, nat_tests) in
    ap (λ t. cond t (Some words) None) test

-- the words of a heap read as the cell, whatever region it stands in
pub record ReadsAsCell (heap : Heap) (cell : Cell) : Type 0 where
  pub is_header : IsHeader cell.header
  pub first : slice_get heap.words cell.at ≡ Some (header_bits cell.header)
  pub known : cell.header.shape < shapes_most
  pub is_layout : IsLayout cell.layout
  pub of_shape : layout_word heap.paths cell.header.shape ≡ layout_bits cell.layout
  pub second : length_by (has_length cell.layout.kind) (slice_get heap.words (cell.at + 1)) ≡ Some cell.length
  pub sized : cell_size cell.layout cell.length ≡ Some cell.size

-- a cell stood in the old heap; the new one has as many words, and the sizes of one
pub record HadCell (old new : Heap) (stood : Cell) : Type 0 where
  pub words : List ℕ
  pub has : HasCell old stood words
  pub same_space : new.space ≡ old.space
  pub long : length new.words ≡ length old.words
  pub sized : HasSizes new

-- what is read in its words is a cell
pub stands_inside : {old new : Heap} {stood : Cell} (cell : Cell) → HadCell old new stood → ReadsAsCell new cell
    → stood.at ≤ cell.at → cell.at + cell.size ≤ stood.at + stood.size → IsCell new.space new.words cell
stands_inside {old} {new} cell had reads from below =
    let was = has_is_cell had.has in
    let some = (size_bounds cell.layout cell.length cell.size reads.sized).0 in
    let ends : CellsEndAt old.space cell.at was.end = record {
      extent = was.stands.extent;
      stands = was.stands.stands;
      of_cells = was.stands.of_cells;
      holds = record {
        from = omega (arith, was.stands.holds.from, from);
        below = omega (arith, was.stands.ends, was.reads.ends, below, some);
      };
      ends = was.stands.ends;
    } in
    record {
      end = was.end;
      stands = subst (λ (space : Space). CellsEndAt space cell.at was.end) (sym had.same_space) ends;
      reads = record {
        is_header = reads.is_header;
        first = reads.first;
        known = reads.known;
        is_layout = reads.is_layout;
        of_shape = slice_get-layouts_in new.space new.words cell.header.shape reads.known
            ∙ had.sized.layouts cell.header.shape reads.known ∙ ap Some reads.of_shape;
        second = reads.second;
        sized = reads.sized;
        ends = omega (arith, was.reads.ends, below);
        there = omega (arith, was.reads.there, below, had.long);
      };
    }

-- a filler is read where its header stands
pub filler_read : {heap : Heap} (at : ℕ) → slice_get heap.words at ≡ Some (header_bits filler_header)
    → ReadsAsCell heap (filler_cell at)
filler_read at header = record {
  is_header = record { shape = omega arith; object = omega arith };
  first = header;
  known = omega arith;
  is_layout = record { cap = refl; used = refl; raw = refl };
  of_shape = refl;
  second = refl;
  sized = refl;
}

-- a gap where its header and its length do
pub gap_read : {heap : Heap} (at count : ℕ) → slice_get heap.words at ≡ Some (header_bits gap_header)
    → slice_get heap.words (at + 1) ≡ Some count → 2 ≤ count → count ≤ cell_words_most
    → ReadsAsCell heap (gap_cell at count)
gap_read at count header counted some few = record {
  is_header = record { shape = omega arith; object = omega arith };
  first = header;
  known = omega arith;
  is_layout = record { cap = refl; used = refl; raw = refl };
  of_shape = refl;
  second = counted;
  sized = sized_within 2 count some few;
}

-- so is a store
pub store_read : {heap : Heap} (at capacity : ℕ) → slice_get heap.words at ≡ Some (header_bits store_header)
    → slice_get heap.words (at + 1) ≡ Some capacity → store_head + capacity ≤ cell_words_most
    → ReadsAsCell heap (store_cell at capacity)
store_read at capacity header counted few = record {
  is_header = record { shape = omega arith; object = omega arith };
  first = header;
  known = omega arith;
  is_layout = record { cap = refl; used = refl; raw = refl };
  of_shape = refl;
  second = counted;
  sized = sized_within 1 (store_head + capacity) (omega arith) few;
}

-- a store of the old heap reads as one of another length where its header stays
pub shrunk_read : {old new : Heap} {stood : Cell} (capacity : ℕ) → HadCell old new stood
    → stood.layout.kind ≡ kind.Store → layout_word new.paths stood.header.shape ≡ layout_bits stood.layout
    → slice_get new.words stood.at ≡ slice_get old.words stood.at → slice_get new.words (stood.at + 1) ≡ Some capacity
    → store_head + capacity ≤ cell_words_most
    → ReadsAsCell new (record stood { length = capacity; size = store_head + capacity })
shrunk_read {new = new} {stood} capacity had store of_shape header counted few =
    let was = (has_is_cell had.has).reads in
    let size : ℕ = store_head + capacity in
    record {
      is_header = was.is_header;
      first = header ∙ was.first;
      known = was.known;
      is_layout = was.is_layout;
      of_shape = of_shape;
      second = subst (λ k. length_by (has_length k) (slice_get new.words (stood.at + 1)) ≡ Some capacity) (sym store)
          counted;
      sized = subst (λ k. size_within (words_least k) (words_of k stood.layout.cap capacity) ≡ Some size) (sym store)
          (sized_within 1 size (omega arith) few);
    }
