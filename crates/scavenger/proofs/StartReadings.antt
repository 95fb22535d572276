-- What the words before a scavenge read as at the address of a cell: the cell, and so its size and its slots.
use Rattle.std.proofs.Common.{◌≡◌, ℕ, ◌≤◌, ◌^◌, List, length, Some, ap, ◌∙◌, arith}
use Rattle.tagged_word.specs.Cells.{scavenge_offsets}
use Rattle.tagged_word.specs.Readings.{read_cell}
use Rattle.tagged_word.proofs.CellReadings.{cell_to}
use Rattle.page_space.specs.Extents.{Space, roots_start}
use Rattle.page_space.specs.RegionLaws.{IsSpace}
use Rattle.page_space.proofs.Starts.{layouts_start_is, marks_start_is, board_start_is, words_count_is}
use Rattle.page_space.proofs.Limits.{words_count_most}
use Rattle.page_space.proofs.CellEnds.{end_before_roots}
use Rattle.cell_layout.specs.Cells.{IsCell, reading_of, layouts_in}
use Rattle.heap_model.specs.Types.{Cell}
use Rattle.heap_model.specs.Heaps.{Heap}
use Rattle.heap_model.specs.Wholeness.{HasSizes}
use Rattle.scav_copy.specs.Places.{Fixed, last_address, cell_before, words_in, offsets_in, size_of, offsets_of}
use Rattle.scavenger.specs.Starts.{Start, Begins}

-- no address before the roots is past the greatest one
abbrev pub IsLow : Space → Type 0
IsLow space = roots_start space ≤ last_address

-- so it is within the limits of all sizes
pub low_within : (space : Space) → IsSpace space → IsLow space
low_within space limits =
    omega (
      arith,
      words_count_most space limits,
      layouts_start_is space,
      marks_start_is space,
      board_start_is space,
      words_count_is space,
    )

-- so it is where no word is past 32 bits
pub low_sized : (heap : Heap) → HasSizes heap → length heap.words ≤ 2 ^ 32 → IsLow heap.space
low_sized heap sized few = omega (arith, sized.words, layouts_start_is heap.space, marks_start_is heap.space)

-- the cell at an address reads as one that ends at the greatest address or before
pub cell_reads : (space : Space) (words : List ℕ) (cell : Cell) → IsLow space → IsCell space words cell
    → read_cell words (layouts_in space words) cell.at last_address ≡ Some (reading_of cell)
cell_reads space words cell low is_cell =
    let reads = is_cell.reads in
    cell_to words (layouts_in space words) cell.at last_address (reading_of cell) record {
      is_header = reads.is_header;
      first = reads.first;
      known = reads.known;
      is_layout = reads.is_layout;
      of_shape = reads.of_shape;
      second = reads.second;
      sized = reads.sized;
      ends = omega (arith, reads.ends, end_before_roots space cell.at is_cell.end is_cell.stands);
      there = reads.there;
    }

module _ {start : Start} {fixed : Fixed} (begins : Begins start fixed) (low : IsLow start.heap.space) where
  -- a cell of the heap's words is read where a scavenge begins
  pub cell_before_is : (cell : Cell) → IsCell start.heap.space start.heap.words cell
      → cell_before fixed cell.at ≡ Some (reading_of cell)
  unfolding cell_before
  cell_before_is cell is_cell =
      ap (λ words. read_cell words fixed.layouts cell.at last_address) begins.before
      ∙ ap (λ layouts. read_cell start.heap.words layouts cell.at last_address) begins.layouts
      ∙ cell_reads start.heap.space start.heap.words cell low is_cell

  -- it has the size of the cell
  pub size_is : (cell : Cell) → IsCell start.heap.space start.heap.words cell → size_of fixed cell.at ≡ cell.size
  size_is cell is_cell = ap words_in (cell_before_is cell is_cell)

  -- and the slots of the cell
  pub offsets_are : (cell : Cell) → IsCell start.heap.space start.heap.words cell
      → offsets_of fixed cell.at ≡ scavenge_offsets cell.layout cell.length
  offsets_are cell is_cell = ap offsets_in (cell_before_is cell is_cell)
