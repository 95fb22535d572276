-- The parts that a cell is read by are those of the cell that stands there.
use Rattle.std.proofs.Common.{◌≡◌, ℕ, ◌+◌, List, Some, slice_get, sym, ◌∙◌, ap, subst}
use Rattle.tagged_word.specs.Headers.{header_bits}
use Rattle.tagged_word.specs.Layouts.{layout_bits}
use Rattle.tagged_word.specs.Cells.{has_length, length_by, cell_size}
use Rattle.tagged_word.proofs.Cells.{some_same}
use Rattle.page_space.specs.Extents.{Space, layouts_start}
use Rattle.cell_layout.specs.Cells.{IsLayoutOf}
use Rattle.cell_layout.proofs.CellsThere.{known, slice_get-layouts_in}
use Rattle.heap_model.specs.Types.{Cell, Header, LayoutWord}
use Rattle.heap_walk.specs.Standing.{StandsAt}

module _ {space : Space} {words : List ℕ} {at : ℕ} {cell : Cell} (is : StandsAt space words at cell) where
  -- its first word has the bits of its header
  pub header_word : (word : ℕ) → slice_get words at ≡ Some word → word ≡ header_bits cell.header
  header_word word read =
      some_same read
      (subst (λ (one : ℕ). slice_get words one ≡ Some (header_bits cell.header)) is.stands is.is_cell.reads.first)

  -- its layout is that of its shape
  layout_stands : IsLayoutOf space words cell.header.shape cell.layout
  layout_stands = record { is_layout = is.is_cell.reads.is_layout; of_shape = is.is_cell.reads.of_shape }

  -- also by the shape of a header that is its own
  pub layout_known : (header : Header) → header ≡ cell.header → IsLayoutOf space words header.shape cell.layout
  layout_known header same =
      subst (λ (one : Header). IsLayoutOf space words one.shape cell.layout) (sym same) layout_stands

  -- its length is told by its second word
  length_stands : length_by (has_length cell.layout.kind) (slice_get words (at + 1)) ≡ Some cell.length
  length_stands =
      subst (λ (one : ℕ). length_by (has_length cell.layout.kind) (slice_get words (one + 1)) ≡ Some cell.length)
      is.stands is.is_cell.reads.second

  -- also by the kind of a layout that is its own
  pub length_known : (layout : LayoutWord) → layout ≡ cell.layout
      → length_by (has_length layout.kind) (slice_get words (at + 1)) ≡ Some cell.length
  length_known layout same =
      ap (λ (one : LayoutWord). length_by (has_length one.kind) (slice_get words (at + 1))) same ∙ length_stands

  -- and its size by its layout and its length
  pub size_known : (layout : LayoutWord) (length : ℕ) → layout ≡ cell.layout
      → length_by (has_length layout.kind) (slice_get words (at + 1)) ≡ Some length
      → cell_size layout length ≡ Some cell.size
  size_known layout length same has =
      let long : length ≡ cell.length = some_same has (length_known layout same) in
      let sized = is.is_cell.reads.sized in cc

  -- so a cell of these parts is the one that stands there
  pub cell_is : (header : Header) (layout : LayoutWord) (length size : ℕ) → header ≡ cell.header → layout ≡ cell.layout
      → length_by (has_length layout.kind) (slice_get words (at + 1)) ≡ Some length
      → cell_size layout length ≡ Some size
      → record { at = at; header = header; layout = layout; length = length; size = size } ≡ cell
  cell_is header layout length size of_header same has sized =
      let long : length ≡ cell.length = some_same has (length_known layout same) in
      let many : size ≡ cell.size = some_same sized (size_known layout length same has) in
      let stands : at ≡ cell.at = sym is.stands in
      let same_parts
      : record { at = at; header = header; layout = layout; length = length; size = size }
      ≡ record {
        at = cell.at;
        header = cell.header;
        layout = cell.layout;
        length = cell.length;
        size = cell.size;
      } = cc in
      same_parts

module _ {space : Space} {words : List ℕ} {shape : ℕ} {layout : LayoutWord}
    (is : IsLayoutOf space words shape layout) where
  -- the word that stands where the layout word of a shape does is that of its layout
  pub layout_word_is : (told : Space) (place word : ℕ) → told ≡ space → place ≡ layouts_start told + shape
      → slice_get words place ≡ Some word → word ≡ layout_bits layout
  layout_word_is told place word same here read =
      let there : place ≡ layouts_start space + shape =
      here ∙ ap (λ (one : Space). layouts_start one + shape) same in
      some_same (subst (λ (one : ℕ). slice_get words one ≡ Some word) there read)
      (sym (slice_get-layouts_in space words shape (known space words shape layout is)) ∙ is.of_shape)
