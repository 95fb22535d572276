-- Where no word of eden is used and there are no survivors, each cell stands in a page.
use Rattle.std.proofs.Common.{◌≡◌, ℕ, ◌<◌, ◌≤◌, inl, inr, List, [], ◌∷◌, Contains, sum_by}
use Rattle.std.proofs.Common.{sym, ◌∙◌, ap, subst, arith}
use Rattle.std.proofs.lemmas.List.Sums.{sum_by-cons}
use Rattle.tagged_word.proofs.Members.{in_cases}
use Rattle.page_space.specs.declared.region.Region.TheVariants.{Page, Eden, Segment}
use Rattle.page_space.specs.Extents.{Extent, IsRegion, eden_start}
use Rattle.page_space.proofs.CellAddresses.{page_ends}
use Rattle.page_space.proofs.Placed.{placed}
use Rattle.page_space.proofs.Standing.{start_of, length_of}
use Rattle.cell_layout.proofs.OneCell.{cells_have_words}
use Rattle.cell_layout.proofs.Rows.{cell_within}
use Rattle.heap_model.specs.Types.{Region, Cell}
use Rattle.heap_model.specs.Heaps.{Heap, Row, EndsUsed, HasCell, survivors_in}
use Rattle.heap_model.specs.Wholeness.{HasRows}
use Rattle.heap_model.proofs.BoundHeaps.{none_in}
use Rattle.heap_model.proofs.CellsApart.{cell_extent_stands, has_is_cell}
use Rattle.heap_model.proofs.RegionRows.{row_of}
use Rattle.heap_model.proofs.RowEnds.{one_used_row}

-- no element adds to a sum of 0
none_added : {X : Type 0} (f : X → ℕ) (xs : List X) (x : X) → sum_by f xs ≡ 0 → Contains xs x → f x ≡ 0
none_added f [] x none there = absurd (none_in x there)
none_added f (y ∷ ys) x none there = elim (in_cases y ys x there) [
  | inl same ↦ ap f (sym same) ∙ omega (arith, sum_by-cons f y ys, none)
  | inr later ↦ none_added f ys x (omega (arith, sum_by-cons f y ys, none)) later
]

-- an address of a row is a page's, by the row's region
row_in_pages : (heap : Heap) (row : Row) (region : Region) (at : ℕ) → heap.used ≡ 0 → survivors_in row region ≡ 0
    → EndsUsed heap row.extent row.end region → IsRegion heap.space region
    → row.extent.start ≡ start_of heap.space region → row.extent.words ≡ length_of heap.space region
    → row.extent.start ≤ at → at < row.end → at < eden_start heap.space
row_in_pages heap row (Page page) at unused none ends is_one starts long from below =
    omega (arith, ends, starts, long, below, page_ends heap.space page is_one)
row_in_pages heap row Eden at unused none ends is_one starts long from below =
    absurd (omega (arith, ends, unused, from, below))
row_in_pages heap row (Segment half worker) at unused none ends is_one starts long from below =
    absurd (omega (arith, none, from, below))
row_in_pages heap row _ at unused none ends is_one starts long from below = absurd ends

-- so each cell is a page's
pub cells_in_pages : {heap : Heap} {cell : Cell} {words : List ℕ} → HasRows heap → heap.survivors ≡ 0 → heap.used ≡ 0
    → HasCell heap cell words → cell.at < eden_start heap.space
cells_in_pages {heap} {cell} rows none unused has =
    let own = row_of has.row.extent rows.are has.in_region in
    let row : Row = own.row in
    let one = one_used_row heap has.row row has.used own.is.used (sym own.same) in
    let there = subst (λ (all : List Cell). Contains all cell) one.cells has.in_row in
    let place = placed heap.space row.extent (cell_extent_stands heap.space row.extent own.is.among) in
    let within = cell_within heap.space heap.words row.extent.start row.end row.cells cell own.is.used.stands there in
    let some = (cells_have_words heap.space heap.words cell (has_is_cell has)).0 in
    let row_none : survivors_in row row.extent.region ≡ 0 =
    none_added (λ (each : Row). survivors_in each each.extent.region) rows.rows row (rows.counted ∙ none) own.there in
    row_in_pages heap row row.extent.region cell.at unused row_none own.is.used.ends place.is_region
    (ap (λ (e : Extent). e.start) place.place) (ap (λ (e : Extent). e.words) place.place) within.0
    (omega (arith, within.1, some))
