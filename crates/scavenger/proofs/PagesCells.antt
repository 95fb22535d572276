-- What cells are while a scavenge goes on: the copies in pages, and a cell that is to be copied.
use Rattle.std.proofs.Common.{◌≡◌, ℕ, ◌+◌, ◌≤◌, List, length, Contains, Some, slice_get}
use Rattle.std.proofs.Common.{get_or, sym, ◌∙◌, ap, arith}
use Rattle.tagged_word.specs.Cells.{scavenge_offsets}
use Rattle.tagged_word.specs.Readings.{read_cell}
use Rattle.tagged_word.proofs.CellReadings.{cell_to}
use Rattle.page_space.specs.Extents.{eden_start, roots_start, marks_start}
use Rattle.cell_layout.specs.Cells.{IsCell, reading_of}
use Rattle.cell_layout.proofs.OneCell.{one_cell}
use Rattle.heap_model.specs.Types.{Cell}
use Rattle.heap_model.proofs.CellsApart.{used_few}
use Rattle.heap_model.proofs.WordsAlike.{cell_below_roots}
use Rattle.scav_copy.specs.declared.places.Home.{Home}
use Rattle.scav_copy.specs.Places.{Fixed, cell_before, words_in, offsets_in, size_of, offsets_of}
use Rattle.scav_copy.specs.Copies.{HasNoHome, HasHeader, Copying}
use Rattle.scav_copy.proofs.Reading.{copies_end, copies_read, unmoved_reads}
use Rattle.scavenger.specs.Starts.{Start, IsBegun, IsYoungCell}
use Rattle.scavenger.specs.Paging.{IsUnmoved}
use Rattle.scavenger.proofs.TargetCells.{layouts_same, young_is_cell, young_size}

-- there are as many words as before the marks
pub as_long : {start : Start} {fixed : Fixed} {words : List ℕ} {homes : List Home} → IsBegun start fixed
    → Copying fixed words homes → length words ≡ marks_start start.heap.space
as_long begun copying =
    copying.long ∙ ap (λ (all : List ℕ). length all) begun.begins.before ∙ begun.whole.sized.words

-- the cell that stands at a home is the cell that was copied
pub copy_reads : {start : Start} {fixed : Fixed} {words : List ℕ} {homes : List Home} (home : Home) (cell : Cell)
    → IsBegun start fixed → Copying fixed words homes → Contains homes home → IsCell start.heap.space words cell
    → cell.at ≡ home.to → cell_before fixed home.from ≡ Some (reading_of cell)
copy_reads {start} {fixed} {words} {homes} home cell begun copying there is_cell stands =
    let reads = is_cell.reads in
    let shape : ℕ = cell.header.shape in
    let copied = copies_read fixed words homes home (length words) begun.laid copying there
    (copies_end fixed words homes home begun.laid copying there) in
    let is : read_cell words fixed.layouts cell.at (length words) ≡ Some (reading_of cell) =
    cell_to words fixed.layouts cell.at (length words) (reading_of cell) record {
      is_header = reads.is_header;
      first = reads.first;
      known = reads.known;
      is_layout = reads.is_layout;
      of_shape = ap (λ (layouts : List ℕ). slice_get layouts shape) begun.begins.layouts
          ∙ sym (layouts_same shape begun copying reads.known) ∙ reads.of_shape;
      second = reads.second;
      sized = reads.sized;
      ends = reads.there;
      there = reads.there;
    } in
    sym copied ∙ ap (λ (at : ℕ). read_cell words fixed.layouts at (length words)) (sym stands) ∙ is

-- it has as many words
pub copy_size : {start : Start} {fixed : Fixed} {words : List ℕ} {homes : List Home} (home : Home) (cell : Cell)
    → IsBegun start fixed → Copying fixed words homes → Contains homes home → IsCell start.heap.space words cell
    → cell.at ≡ home.to → size_of fixed home.from ≡ cell.size
copy_size home cell begun copying there is_cell stands =
    ap words_in (copy_reads home cell begun copying there is_cell stands)

-- and the same slots
pub copy_offsets : {start : Start} {fixed : Fixed} {words : List ℕ} {homes : List Home} (home : Home) (cell : Cell)
    → IsBegun start fixed → Copying fixed words homes → Contains homes home → IsCell start.heap.space words cell
    → cell.at ≡ home.to → offsets_of fixed home.from ≡ scavenge_offsets cell.layout cell.length
copy_offsets home cell begun copying there is_cell stands =
    ap offsets_in (copy_reads home cell begun copying there is_cell stands)

-- the header of a cell with no home is as before
pub header_stays : {fixed : Fixed} {words : List ℕ} {homes : List Home} {cell : ℕ} → HasNoHome homes cell
    → HasHeader fixed words homes cell → get_or words cell 0 ≡ get_or fixed.before cell 0
header_stays none (HasHeader.forwarded home there of word) = absurd (none home there of)
header_stays none (HasHeader.unmoved homeless word) = word

-- What is known of a cell that is to be copied: it is one of the young cells, and has the size that it had.
pub record IsOfYoung (start : Start) (fixed : Fixed) (cell : Cell) : Type 0 where
  pub young : eden_start start.heap.space ≤ cell.at
  pub below : cell.at + cell.size ≤ roots_start start.heap.space
  pub size : size_of fixed cell.at ≡ cell.size

-- each such cell is one
pub unmoved_is : {start : Start} {fixed : Fixed} {words : List ℕ} {homes : List Home} (cell : Cell)
    → IsBegun start fixed → Copying fixed words homes → IsUnmoved start fixed words homes cell
    → IsOfYoung start fixed cell
unmoved_is {start} {fixed} {words} {homes} cell begun copying unmoved =
    let space = start.heap.space in
    let is : IsYoungCell start.heap cell.at = (begun.begins.cells cell.at).0 unmoved.among in
    let reads = unmoved_reads fixed words homes cell.at begun.laid copying unmoved.among
    (header_stays unmoved.none (copying.headers cell.at unmoved.among)) in
    let same : is.cell ≡ cell =
    one_cell space words is.cell cell (young_is_cell cell.at begun copying is reads) unmoved.is_cell is.stands in
    let size : is.cell.size ≡ cell.size = ap (λ (one : Cell). one.size) same in
    let below = cell_below_roots (used_few begun.whole.rows) is.has in
    record {
      young = is.young;
      below = omega (arith, below, size, is.stands);
      size = omega (arith, young_size begun is, size);
    }
