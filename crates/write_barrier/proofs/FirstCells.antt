-- The cells of a heap that was just opened: each page is one gap, and no other cell stands anywhere.
use Rattle.std.proofs.Common.{◌≡◌, ℕ, ◌+◌, ◌*◌, ◌<◌, ◌≤◌, List, [], ◌∷◌, IsTrue}
use Rattle.std.proofs.Common.{Contains, refl, sym, ◌∙◌, ap, subst, arith, ⊎_elim, inr}
use Rattle.std.proofs.lemmas.Bool.{false≢true}
use Rattle.tagged_word.specs.declared.layout.Kind.TheVariants as kind
use Rattle.heap_model.specs.Types.{LayoutWord, Region, Cell}
use Rattle.tagged_word.specs.Shapes.{gap_shape}
use Rattle.page_space.specs.declared.region.Region.TheVariants.{Page, Eden, Segment, Root, Layout, Mark, Board, Outside}
use Rattle.page_space.specs.Sizes.{page_words}
use Rattle.page_space.specs.Extents.{Space, Extent, IsRegion, is_cell_region, eden_start}
use Rattle.page_space.specs.Extents.{marks_start, words_in, half_of}
use Rattle.page_space.proofs.Lists.{contains_only, contains_none}
use Rattle.page_space.proofs.Stretches.{stands_cases, numbered, IsNumbered}
use Rattle.page_space.proofs.Starts.{roots_start_is, layouts_start_is, marks_start_is}
use Rattle.page_space.proofs.Standing.{start_of, extent_of, pages, eden, to_eden, to_half}
use Rattle.page_space.proofs.Placed.{placed}
use Rattle.page_space.proofs.CellAddresses.{cells_end, page_ends, segment_ends}
use Rattle.nursery.specs.Young.{Young}
use Rattle.cell_layout.specs.Cells.{IsCell}
use Rattle.cell_layout.specs.Cells.IsRow.{none, next}
use Rattle.cell_layout.proofs.CellsThere.{slice_get-layouts_in}
use Rattle.write_barrier.specs.Seats.{heap_words}
use Rattle.heap_model.specs.Heaps.{Row, IsUsedRow, HasCell, cell_extents}
use Rattle.heap_model.proofs.CellsApart.{cell_extent_stands}
use Rattle.heap_model.proofs.RowEnds.{one_used_row}
use Rattle.write_barrier.specs.MutatorState.{Mutator, gap_header, heap_of}
use Rattle.write_barrier.specs.Opening.{IsStarted}

-- the layout of a gap
abbrev gap_layout : LayoutWord
gap_layout = record { kind = kind.Gap; cap = 0; used = 0; raw = 0 }

-- a gap of the words of a page
abbrev pub page_gap : ℕ → Cell
page_gap at = record { at = at; header = gap_header; layout = gap_layout; length = page_words; size = page_words }

-- the cells of a region that was just opened, from its first address on
abbrev pub first_cells : Region → ℕ → List Cell
first_cells (Page page) start = page_gap start ∷ []
first_cells _ start = []

-- where they end
abbrev pub first_end : Region → ℕ → ℕ → ℕ
first_end (Page page) start words = start + words
first_end _ start words = start

-- the row of a region that was just opened
abbrev pub first_row : Extent → Row
first_row extent = record {
  extent = extent;
  end = first_end extent.region extent.start extent.words;
  cells = first_cells extent.region extent.start;
}

-- among the regions of cells are pages, eden and segments alone
pub cells_alone : (space : Space) (extent : Extent) → Contains (cell_extents space) extent
    → IsTrue (is_cell_region extent.region)
cells_alone space extent there =
    let P : Region → Type 0 = λ region. IsTrue (is_cell_region region) in
    ⊎_elim
    (λ early. ⊎_elim
    (λ earlier. ⊎_elim
    (λ in_pages.
    let found : IsNumbered (λ n. Page n) page_words space.sizes.pages 0 extent = numbered _ _ _ _ extent in_pages in
    subst P found.of_region refl)
    (λ in_eden. subst P (ap (λ (e : Extent). e.region) (contains_only _ extent in_eden)) refl)
    (stands_cases 0 (pages space) (eden space) extent earlier))
    (λ in_half.
    let found : IsNumbered (λ n. Segment 0 n) space.sizes.young (space.sizes.helpers + 1)
    (0 + words_in (to_eden space)) extent =
    numbered _ _ _ _ extent in_half in
    subst P found.of_region refl)
    (stands_cases 0 (to_eden space) (half_of space 0) extent early))
    (λ in_half.
    let found : IsNumbered (λ n. Segment 1 n) space.sizes.young (space.sizes.helpers + 1)
    (0 + words_in (to_half space)) extent =
    numbered _ _ _ _ extent in_half in
    subst P found.of_region refl)
    (stands_cases 0 (to_half space) (half_of space 1) extent there)

-- a page's gap is a cell
pub gap_is_cell : (main : Mutator) (page : ℕ) → IsStarted main → page < main.seat.space.sizes.pages
    → IsCell main.seat.space (heap_words main.seat) (page_gap (page_words * page))
gap_is_cell main page is below =
    let space = main.seat.space in
    let before : page_words * page + page_words ≤ marks_start space =
    omega (
      arith,
      page_ends space page below,
      roots_start_is space,
      layouts_start_is space,
      marks_start_is space,
    ) in
    record {
      end = page_words * page + page_words;
      stands = cells_end space (Page page) (page_words * page) (page_words * page + page_words) refl
          (record { is_region = below; from = omega arith; below = omega arith }) refl;
      reads = record {
        is_header = record { shape = omega arith; object = omega arith };
        first = (is.gaps page below).header;
        known = omega arith;
        is_layout = record { cap = refl; used = refl; raw = refl };
        of_shape = slice_get-layouts_in space (heap_words main.seat) gap_shape (omega arith)
            ∙ is.layouts gap_shape (omega arith);
        second = (is.gaps page below).size;
        sized = refl;
        ends = omega arith;
        there = omega (arith, is.count);
      };
    }

-- the row of a region that was just opened stands in it
first_row_of : (main : Mutator) (region : Region) → IsStarted main → IsTrue (is_cell_region region)
    → IsRegion main.seat.space region → IsUsedRow (heap_of main) (first_row (extent_of main.seat.space region))
first_row_of main (Page page) is of_cells is_one = record {
  ends = refl;
  stands = next (page_gap (page_words * page)) (page_words * page + page_words) [] (gap_is_cell main page is is_one)
      (none (page_words * page + page_words));
}
first_row_of main Eden is of_cells is_one = record {
  ends = omega (arith, ap (λ (young : Young). young.used) is.young);
  stands = none (eden_start main.seat.space);
}
first_row_of main (Segment half worker) is of_cells is_one =
    let space = main.seat.space in
    let start : ℕ = start_of space (Segment half worker) in
    let ends = segment_ends space half worker is_one in
    record {
      ends = (omega arith, inr (is.segments start (omega arith) (omega (arith, ends, is.within.young_is_least))));
      stands = none start;
    }
first_row_of main (Root variable) is of_cells is_one = absurd (false≢true of_cells)
first_row_of main (Layout shape) is of_cells is_one = absurd (false≢true of_cells)
first_row_of main (Mark mark) is of_cells is_one = absurd (false≢true of_cells)
first_row_of main (Board place) is of_cells is_one = absurd (false≢true of_cells)
first_row_of main Outside is of_cells is_one = absurd (false≢true of_cells)

-- so does the row of each region of cells
pub first_row_stands : (main : Mutator) (extent : Extent) → IsStarted main
    → Contains (cell_extents main.seat.space) extent → IsUsedRow (heap_of main) (first_row extent)
first_row_stands main extent is there =
    let place = placed main.seat.space extent (cell_extent_stands main.seat.space extent there) in
    subst (λ (e : Extent). IsUsedRow (heap_of main) (first_row e)) (sym place.place)
    (first_row_of main extent.region is (cells_alone main.seat.space extent there) place.is_region)

-- a cell of such a row is a gap
row_has_gaps : (region : Region) (start : ℕ) (cell : Cell) → Contains (first_cells region start) cell
    → page_gap start ≡ cell
row_has_gaps (Page page) start cell there = contains_only (page_gap start) cell there
row_has_gaps Eden start cell there = contains_none [] cell refl there
row_has_gaps (Segment half worker) start cell there = contains_none [] cell refl there
row_has_gaps (Root variable) start cell there = contains_none [] cell refl there
row_has_gaps (Layout shape) start cell there = contains_none [] cell refl there
row_has_gaps (Mark mark) start cell there = contains_none [] cell refl there
row_has_gaps (Board place) start cell there = contains_none [] cell refl there
row_has_gaps Outside start cell there = contains_none [] cell refl there

-- each cell of the heap is one
pub has_gaps : (main : Mutator) (cell : Cell) (words : List ℕ) → IsStarted main → HasCell (heap_of main) cell words
    → (start : ℕ) × (page_gap start ≡ cell)
has_gaps main cell words is has =
    let extent = has.row.extent in
    let same = one_used_row (heap_of main) has.row (first_row extent) has.used
    (first_row_stands main extent is has.in_region) refl in (
      extent.start,
      row_has_gaps extent.region extent.start cell
          (subst (λ (cells : List Cell). Contains cells cell) same.cells has.in_row),
    )

-- a cell of such a row begins before eden
row_below_eden : (space : Space) (region : Region) (cell : Cell) → IsRegion space region
    → Contains (first_cells region (start_of space region)) cell → cell.at < eden_start space
row_below_eden space (Page page) cell is_one there =
    let same : page_gap (page_words * page) ≡ cell = contains_only (page_gap (page_words * page)) cell there in
    omega (arith, is_one, ap (λ (c : Cell). c.at) same)
row_below_eden space Eden cell is_one there = contains_none [] cell refl there
row_below_eden space (Segment half worker) cell is_one there = contains_none [] cell refl there
row_below_eden space (Root variable) cell is_one there = contains_none [] cell refl there
row_below_eden space (Layout shape) cell is_one there = contains_none [] cell refl there
row_below_eden space (Mark mark) cell is_one there = contains_none [] cell refl there
row_below_eden space (Board place) cell is_one there = contains_none [] cell refl there
row_below_eden space Outside cell is_one there = contains_none [] cell refl there

-- each cell of the heap does
pub begins_below_eden : (main : Mutator) (cell : Cell) (words : List ℕ) → IsStarted main
    → HasCell (heap_of main) cell words → cell.at < eden_start main.seat.space
begins_below_eden main cell words is has =
    let space = main.seat.space in
    let extent = has.row.extent in
    let same = one_used_row (heap_of main) has.row (first_row extent) has.used
    (first_row_stands main extent is has.in_region) refl in
    let place = placed space extent (cell_extent_stands space extent has.in_region) in
    let starts : extent.start ≡ start_of space extent.region = ap (λ (e : Extent). e.start) place.place in
    row_below_eden space extent.region cell place.is_region
    (subst (λ (start : ℕ). Contains (first_cells extent.region start) cell) starts
    (subst (λ (cells : List Cell). Contains cells cell) same.cells has.in_row))
