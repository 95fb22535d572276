-- The rows of pages at the end of a scavenge: they stand as they stood before some words were emptied.
use Rattle.std.proofs.Common.{◌≡◌, ℕ, ◌+◌, ◌*◌, ◌<◌, ◌≤◌, inl, List, Contains, ◌∙◌, ap, subst, arith}
use Rattle.std.proofs.lemmas.List.Elements.{All-weaker, All-contains_itself}
use Rattle.heap_model.specs.Types.{Cell, Run}
use Rattle.page_space.specs.declared.region.Region.TheVariants.{Page}
use Rattle.page_space.specs.Sizes.{page_words}
use Rattle.page_space.specs.Extents.{Extent, ContainsAddress, IsRegion, eden_start}
use Rattle.page_space.proofs.CellAddresses.{page_ends}
use Rattle.page_space.proofs.Placed.{placed}
use Rattle.page_space.proofs.Standing.{start_of, length_of}
use Rattle.cell_layout.specs.Cells.{IsCell, IsRow}
use Rattle.cell_layout.specs.CellLaws.{ReadsAlike}
use Rattle.cell_layout.proofs.OneCell.{cells_have_words}
use Rattle.cell_layout.proofs.Puts.{two_words}
use Rattle.cell_layout.proofs.Rows.{rows_stay, rows_part_around, cell_within}
use Rattle.heap_model.specs.Heaps.{cell_extents}
use Rattle.heap_model.proofs.CellsApart.{cell_extent_stands}
use Rattle.scav_copy.specs.declared.places.Home.{Home}
use Rattle.scav_copy.specs.Places.{Fixed}
use Rattle.scavenger.specs.Starts.{Start}
use Rattle.scavenger.specs.Filling.{PageStands, IsInPage}
use Rattle.scavenger.proofs.EndWords.{Ending, kept_apart}
use Rattle.scavenger.proofs.EndCopies.{layouts_kept}

-- the region is this page, which ends before eden
pub record IsPageExtent (start : Start) (page : ℕ) (extent : Extent) : Type 0 where
  pub is_page : page < start.heap.space.sizes.pages
  pub starts : extent.start ≡ page_words * page
  pub long : extent.words ≡ page_words
  pub ends : page_words * page + page_words ≤ eden_start start.heap.space

-- where a region of cells is a page, it is so
pub page_extent : (start : Start) (extent : Extent) (page : ℕ) → Contains (cell_extents start.heap.space) extent
    → extent.region ≡ Page page → IsPageExtent start page extent
page_extent start extent page among is =
    let space = start.heap.space in
    let place = placed space extent (cell_extent_stands space extent among) in
    let region : IsRegion space (Page page) = subst (IsRegion space) is place.is_region in
    let starts : extent.start ≡ page_words * page =
    ap (λ (one : Extent). one.start) place.place ∙ ap (start_of space) is in
    let long : extent.words ≡ page_words =
    ap (λ (one : Extent). one.words) place.place ∙ ap (length_of space) is in
    record {
      is_page = region;
      starts = starts;
      long = long;
      ends = omega (arith, page_ends space page region);
    }

-- its addresses are those of the page
pub in_this_page : {start : Start} {page : ℕ} {extent : Extent} {at : ℕ} → IsPageExtent start page extent
    → ContainsAddress extent at → IsInPage page at
in_this_page is holds = record {
  from = omega (arith, holds.from, is.starts);
  below = omega (arith, holds.below, is.starts, is.long);
}

module _ {start : Start} {left : ℕ} {fixed : Fixed} {homes : List Home} {rows : List (List Run)} {words now : List ℕ}
    {fill : ℕ} (ending : Ending start left fixed homes rows words now fill) where
  -- a cell of a page is read off the same words
  reads_alike : (cell : Cell) → IsCell start.heap.space words cell
      → cell.at + cell.size ≤ eden_start start.heap.space → ReadsAlike start.heap.space words now cell
  reads_alike cell is_cell below =
      let some = (cells_have_words start.heap.space words cell is_cell).0 in
      record {
        first = kept_apart ending cell.at (inl (omega (arith, below, some)));
        second = λ has. kept_apart ending (cell.at + 1)
            (inl (omega (arith, below, two_words start.heap.space words cell is_cell has)));
        of_shape = layouts_kept ending cell.header.shape;
      }

  -- so the row of a page stands
  pub page_stands : (page : ℕ) → page_words * page + page_words ≤ eden_start start.heap.space
      → (stands : PageStands start words rows homes page)
      → IsRow start.heap.space now (page_words * page) (page_words * page + page_words) stands.cells
  page_stands page below stands =
      let space = start.heap.space in
      let from : ℕ = page_words * page in
      let to : ℕ = page_words * page + page_words in
      let alike = λ (cell : Cell) (there : Contains stands.cells cell).
      let is_cell = (rows_part_around space words from to stands.cells cell stands.row there).is_cell in
      let within = cell_within space words from to stands.cells cell stands.row there in
      reads_alike cell is_cell (omega (arith, within.1, below)) in
      rows_stay space words now from to stands.cells stands.row ending.emptied.count
      (All-weaker (Contains stands.cells) (ReadsAlike space words now) alike stands.cells
      (All-contains_itself stands.cells))

-- each cell of a page begins before eden
pub page_cell_below : {start : Start} {words : List ℕ} {rows : List (List Run)} {homes : List Home} (page : ℕ)
    (cell : Cell) → page_words * page + page_words ≤ eden_start start.heap.space
    → (stands : PageStands start words rows homes page) → Contains stands.cells cell
    → cell.at < eden_start start.heap.space
page_cell_below {start} {words} page cell below stands there =
    let space = start.heap.space in
    let from : ℕ = page_words * page in
    let to : ℕ = page_words * page + page_words in
    let is_cell = (rows_part_around space words from to stands.cells cell stands.row there).is_cell in
    let within = cell_within space words from to stands.cells cell stands.row there in
    omega (arith, within.1, below, (cells_have_words space words cell is_cell).0)
