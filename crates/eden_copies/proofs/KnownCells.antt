-- What is known of a cell of eden: its size, its slots, and that it stands before the marks.
use Rattle.std.proofs.Common.{◌≡◌, ◌+◌, ◌≤◌, Some, ap, arith}
use Rattle.tagged_word.specs.Cells.{scavenge_offsets}
use Rattle.tagged_word.proofs.CellReadings.{cell_to}
use Rattle.page_space.specs.Extents.{Space, segments_start, marks_start}
use Rattle.page_space.proofs.Starts.{roots_start_is, layouts_start_is, marks_start_is}
use Rattle.shared_table.specs.Owned.{Own}
use Rattle.cell_layout.specs.declared.cell.Cell.{Cell}
use Rattle.cell_layout.specs.Cells.{IsCell, reading_of, layouts_in}
use Rattle.scav_copy.specs.Places.{last_address, cell_before, words_in, offsets_in}
use Rattle.eden_copies.specs.Eden.{ground, size_in, slots_in}

module _ (own : Own) (cell : Cell) (is_cell : IsCell own.space own.words cell)
    (low : cell.at + cell.size ≤ last_address) where
  -- the words read as the cell
  reads_as : cell_before (ground own) cell.at ≡ Some (reading_of cell)
  unfolding cell_before
  reads_as =
      let reads = is_cell.reads in
      cell_to own.words (layouts_in own.space own.words) cell.at last_address (reading_of cell) record {
        is_header = reads.is_header;
        first = reads.first;
        known = reads.known;
        is_layout = reads.is_layout;
        of_shape = reads.of_shape;
        second = reads.second;
        sized = reads.sized;
        ends = low;
        there = reads.there;
      }

  -- it has the size of the cell
  pub size_known : size_in own cell.at ≡ cell.size
  size_known = ap words_in reads_as

  -- and the slots of the cell
  pub slots_known : slots_in own cell.at ≡ scavenge_offsets cell.layout cell.length
  slots_known = ap offsets_in reads_as

-- eden ends before the roots, and these before the marks
pub eden_before_marks : (space : Space) → segments_start space ≤ marks_start space
eden_before_marks space = omega (arith, roots_start_is space, layouts_start_is space, marks_start_is space)
