-- What marking reads at a cell of a page is that cell, and its words.
use Rattle.std.proofs.Common.{◌≡◌, ℕ, ◌+◌, ◌/◌, ◌<◌, ◌≤◌, min, Bool, true, false, List, take, Some, slice_get}
use Rattle.std.proofs.Common.{IsTrue, unwrap_or, refl, sym, ◌∙◌, ap, arith, length-take}
use Rattle.std.proofs.lemmas.Bool.{false≢true}
use Rattle.std.proofs.lemmas.Option.{unwrap_or-slice_get, slice_get_within}
use Rattle.tagged_word.specs.Cells.{ReadsAs, has_length, length_by, length_offset, words_least, words_of}
use Rattle.tagged_word.proofs.Cells.{size_is, two_words_of}
use Rattle.tagged_word.proofs.CellReadings.{cell_to}
use Rattle.page_space.specs.declared.region.Region.{Region}
use Rattle.page_space.specs.declared.region.Region.TheVariants.{Page, Eden, Segment, Root, Layout, Mark, Board, Outside}
use Rattle.page_space.specs.Sizes.{page_words}
use Rattle.page_space.specs.Extents.{Space, Extent, IsRegion, is_cell_region, CellsEndAt, eden_start}
use Rattle.page_space.proofs.CellAddresses.{page_ends}
use Rattle.page_space.proofs.Placed.{IsPlaced, placed}
use Rattle.page_space.proofs.Standing.{start_of, length_of}
use Rattle.cell_layout.specs.Cells.{IsCell, layouts_in, reading_of}
use Rattle.cell_layout.proofs.OneCell.{cells_have_words}
use Rattle.mark_world.specs.Pages.{page_end}
use Rattle.heap_model.specs.Types.{Cell}
use Rattle.heap_model.specs.Heaps.{Heap, HasCell}
use Rattle.heap_model.proofs.CellsApart.{has_is_cell}
use Rattle.heap_model.proofs.CellWords.{slice_get-take, words_are_size}
use Rattle.heap_model.proofs.WordsRead.{word_of_cell}
use Rattle.cycle_state.specs.Cycles.{words_of_pages}
use Rattle.cycle_state.specs.Laws.{PageCellsAreRead, PageWordsAreRead}

-- a region in which an address of a page lies ends where that page does
ends_with_page : (space : Space) (region : Region) (at : ℕ) → IsTrue (is_cell_region region) → IsRegion space region
    → start_of space region ≤ at → at < start_of space region + length_of space region → at < eden_start space
    → (start_of space region + length_of space region ≡ page_end at) × (page_end at ≤ eden_start space)
ends_with_page space (Page page) at is_cell is_one from below of_page =
    let ends = page_ends space page is_one in
    let same : at / page_words ≡ page = omega (arith, from, below) in
    (omega (arith, same), omega (arith, same, ends))
ends_with_page space Eden at is_cell is_one from below of_page = absurd (omega (arith, from, of_page))
ends_with_page space (Segment half worker) at is_cell is_one from below of_page = absurd (omega (arith, from, of_page))
ends_with_page space (Root variable) at is_cell is_one from below of_page = absurd (false≢true is_cell)
ends_with_page space (Layout shape) at is_cell is_one from below of_page = absurd (false≢true is_cell)
ends_with_page space (Mark mark) at is_cell is_one from below of_page = absurd (false≢true is_cell)
ends_with_page space (Board place) at is_cell is_one from below of_page = absurd (false≢true is_cell)
ends_with_page space Outside at is_cell is_one from below of_page = absurd is_one

-- so do the cells that stand there
page_cells_end : (space : Space) (at end : ℕ) → CellsEndAt space at end → at < eden_start space
    → (end ≡ page_end at) × (page_end at ≤ eden_start space)
page_cells_end space at end is of_page =
    let place : IsPlaced space is.extent = placed space is.extent is.stands in
    let starts : is.extent.start ≡ start_of space is.extent.region = ap (λ (e : Extent). e.start) place.place in
    let long : is.extent.words ≡ length_of space is.extent.region = ap (λ (e : Extent). e.words) place.place in
    let page = ends_with_page space is.extent.region at is.of_cells place.is_region
    (omega (arith, is.holds.from, starts)) (omega (arith, is.holds.below, starts, long)) of_page in
    (omega (arith, is.ends, starts, long, page.0), page.1)

-- the second word of a cell, where it is a length, stands among the words before its end
second_word : (test : Bool) (words : List ℕ) (at size old long : ℕ) → (IsTrue test → 2 ≤ size) → at + size ≤ old
    → length_by test (slice_get words (at + length_offset)) ≡ Some long
    → length_by test (slice_get (take old words) (at + length_offset)) ≡ Some long
second_word true words at size old long many within second =
    slice_get-take old words (at + length_offset) (omega (arith, within, many refl)) ∙ second
second_word false words at size old long many within second = second

-- the cell is read so
pub page_cells_are_read : PageCellsAreRead
page_cells_are_read heap cell words has of_page =
    let old : ℕ = eden_start heap.space in
    let is : IsCell heap.space heap.words cell = has_is_cell has in
    let reads = is.reads in
    let ends = page_cells_end heap.space cell.at is.end is.stands of_page in
    let within : cell.at + cell.size ≤ old = omega (arith, reads.ends, ends.0, ends.1) in
    let sized = size_is (words_least cell.layout.kind) (words_of cell.layout.kind cell.layout.cap cell.length) cell.size
    reads.sized in
    let some = (cells_have_words heap.space heap.words cell is).0 in
    let read : ReadsAs (words_of_pages heap) (layouts_in heap.space heap.words) cell.at (min old (page_end cell.at))
    (reading_of cell) = record {
      is_header = reads.is_header;
      first = slice_get-take old heap.words cell.at of_page ∙ reads.first;
      known = reads.known;
      is_layout = reads.is_layout;
      of_shape = reads.of_shape;
      second = second_word (has_length cell.layout.kind) heap.words cell.at cell.size old cell.length
          (λ test. two_words_of cell.layout.kind cell.layout.cap cell.length cell.size test sized.0
          (omega (arith, sized.0, sized.1))) within reads.second;
      sized = reads.sized;
      ends = omega (arith, within, reads.ends, ends.0);
      there = omega (arith, within, length-take old heap.words, reads.there);
    } in
    cell_to (words_of_pages heap) (layouts_in heap.space heap.words) cell.at (min old (page_end cell.at))
    (reading_of cell) read

-- a cell of a page ends before eden
pub page_cell_within : {heap : Heap} {cell : Cell} {words : List ℕ} → HasCell heap cell words
    → cell.at < eden_start heap.space → cell.at + cell.size ≤ eden_start heap.space
page_cell_within {heap} {cell} has of_page =
    let is : IsCell heap.space heap.words cell = has_is_cell has in
    let ends = page_cells_end heap.space cell.at is.end is.stands of_page in
    omega (arith, is.reads.ends, ends.0, ends.1)

-- and so is its word
pub page_words_are_read : PageWordsAreRead
page_words_are_read heap cell words offset word has of_page there =
    let old : ℕ = eden_start heap.space in
    let at : ℕ = cell.at + offset in
    let few : offset < cell.size = omega (arith, slice_get_within words offset word there, words_are_size has) in
    let below : at < old = omega (arith, few, page_cell_within has of_page) in
    sym (unwrap_or-slice_get (words_of_pages heap) at 0)
    ∙ ap (λ found. unwrap_or found 0) (slice_get-take old heap.words at below)
    ∙ word_of_cell offset word has there
