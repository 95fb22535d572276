-- The row of a page: it fills the page, and each page has one.
use Rattle.std.proofs.Common.{◌≡◌, ℕ, ◌+◌, ◌*◌, ◌≤◌, ◌<◌, inl, inr, List, Contains, length, slice_get}
use Rattle.std.proofs.Common.{refl, sym, ◌∙◌, subst, arith}
use Rattle.std.proofs.lemmas.Bool.{cases_lt}
use Rattle.std.proofs.lemmas.List.Elements.{All-weaker, All-contains_itself}
use Rattle.tagged_word.specs.Shapes.{shapes_most}
use Rattle.page_space.specs.declared.region.Region.TheVariants.{Page}
use Rattle.page_space.specs.Sizes.{page_words}
use Rattle.page_space.specs.Extents.{Space, Extent, eden_start, layouts_start, marks_start, roots_start}
use Rattle.page_space.specs.RegionLaws.{IsSpace}
use Rattle.page_space.proofs.Standing.{extent_of}
use Rattle.page_space.proofs.Starts.{layouts_start_is, marks_start_is, roots_start_is}
use Rattle.cell_layout.specs.CellLaws.{ReadsAlike}
use Rattle.cell_layout.specs.Cells.{IsRow, layouts_in}
use Rattle.cell_layout.proofs.CellsThere.{slice_get-layouts_in, slice_get-layouts_past}
use Rattle.cell_layout.proofs.Rows.{cell_within, rows_stay}
use Rattle.heap_model.specs.Types.{Cell}
use Rattle.heap_model.specs.Heaps.{Heap, Row, EndsUsed}
use Rattle.heap_model.specs.RegionRows.{StandsBetween}
use Rattle.heap_model.specs.Wholeness.{HasRows}
use Rattle.heap_model.proofs.RegionRows.{row_of, one_row_from}
use Rattle.heap_model.proofs.RegionStarts.{one_extent}
use Rattle.heap_model.proofs.WordsAlike.{extent_below_roots}
use Rattle.write_barrier.proofs.FirstRuns.{page_among}
use Rattle.compactor.specs.Sliding.{IsPageRow, page_start}

-- a page stands between two addresses
pub page_between : (space : Space) (page : ℕ) → page < space.sizes.pages
    → StandsBetween space (page_start page) (page_start page + page_words)
page_between space page there = record {
  extent = extent_of space (Page page);
  among = page_among space page there;
  starts = refl;
  ends = refl;
}

-- a page ends before eden
pub page_below_eden : (space : Space) (page : ℕ) → page < space.sizes.pages → page_start (page + 1) ≤ eden_start space
page_below_eden space page there = omega (arith, there)

-- and before the roots
pub page_below_roots : (space : Space) (page : ℕ) → page < space.sizes.pages
    → page_start (page + 1) ≤ roots_start space
page_below_roots space page there =
    let below = extent_below_roots space (extent_of space (Page page)) (page_among space page there) in
    omega (arith, below)

-- and so before the marks
pub page_below_marks : (space : Space) (page : ℕ) → page < space.sizes.pages
    → page_start (page + 1) ≤ marks_start space
page_below_marks space page there =
    omega (arith, page_below_roots space page there, layouts_start_is space, marks_start_is space)

-- each page has a row
pub page_row : {heap : Heap} (page : ℕ) → IsSpace heap.space → HasRows heap → page < heap.space.sizes.pages
    → (row : Row) × IsPageRow heap page row
page_row {heap} page limits rows there =
    let own = row_of (extent_of heap.space (Page page)) rows.are (page_among heap.space page there) in
    (own.row, (there, own.is))

-- it is the row of the page's region
pub page_extent : {heap : Heap} {page : ℕ} {row : Row} → IsSpace heap.space → IsPageRow heap page row
    → row.extent ≡ extent_of heap.space (Page page)
page_extent {heap} {page} {row} limits is =
    one_extent heap.space row.extent (extent_of heap.space (Page page)) limits is.1.among
    (page_among heap.space page is.0) is.1.starts

-- it fills the page
pub page_row_ends : {heap : Heap} {page : ℕ} {row : Row} → IsSpace heap.space → IsPageRow heap page row
    → row.end ≡ page_start (page + 1)
page_row_ends {heap} {page} {row} limits is =
    let ends : row.end ≡ page_words * page + page_words =
    subst (λ (e : Extent). EndsUsed heap e row.end e.region) (page_extent limits is) is.1.used.ends in
    omega (arith, ends)

-- its cells stand from the first address of the page on
pub page_row_stands : {heap : Heap} {page : ℕ} {row : Row} → IsPageRow heap page row
    → IsRow heap.space heap.words (page_start page) row.end row.cells
page_row_stands {heap} {page} {row} is =
    subst (λ (from : ℕ). IsRow heap.space heap.words from row.end row.cells) is.1.starts is.1.used.stands

-- a page has one row
pub one_page_row : {heap : Heap} {page : ℕ} {row other : Row} → IsSpace heap.space → IsPageRow heap page row
    → IsPageRow heap page other → row.cells ≡ other.cells
one_page_row limits is is_too = (one_row_from limits is.1 is_too.1).cells

-- layouts are read as they were where the words from the layout words on are as they were
pub layouts_alike : (space : Space) (words other : List ℕ)
    → ((at : ℕ) → layouts_start space ≤ at → slice_get other at ≡ slice_get words at) → (shape : ℕ)
    → slice_get (layouts_in space other) shape ≡ slice_get (layouts_in space words) shape
layouts_alike space words other alike shape = elim (cases_lt shape shapes_most) [
  | inl below ↦
      slice_get-layouts_in space other shape below
      ∙ alike (layouts_start space + shape) (omega arith)
      ∙ sym (slice_get-layouts_in space words shape below)
  | inr past ↦
      slice_get-layouts_past space other shape past ∙ sym (slice_get-layouts_past space words shape past)
]

-- A row stands in other words, as many, which are the same from its first address on.
pub row_stands_ahead : (space : Space) (words other : List ℕ) (from to : ℕ) (cells : List Cell)
    → IsRow space words from to cells → length other ≡ length words → from ≤ roots_start space
    → ((at : ℕ) → from ≤ at → slice_get other at ≡ slice_get words at) → IsRow space other from to cells
row_stands_ahead space words other from to cells row long before alike =
    let reads : (cell : Cell) → Contains cells cell → ReadsAlike space words other cell = λ cell there.
    let above = (cell_within space words from to cells cell row there).0 in
    record {
      first = alike cell.at above;
      second = λ has. alike (cell.at + 1) (omega (arith, above));
      of_shape = layouts_alike space words other
          (λ at past. alike at (omega (arith, past, before, layouts_start_is space))) cell.header.shape;
    } in
    rows_stay space words other from to cells row long
    (All-weaker (Contains cells) (ReadsAlike space words other) reads cells (All-contains_itself cells))

-- eden begins before the roots
pub eden_below_roots : (space : Space) → eden_start space ≤ roots_start space
eden_below_roots space = omega (arith, roots_start_is space)
