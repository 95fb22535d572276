-- The cells of the young generation, row by row, and that these are all that stand from the first address of eden on.
use Rattle.std.proofs.Common.{◌≡◌, ℕ, ◌+◌, ◌≤◌, ◌<◌, List, [], Contains, refl, sym, ap, subst, arith}
use Rattle.std.specs.List.{flat_map}
use Rattle.page_space.specs.declared.region.Region.TheVariants.{Page, Eden, Segment}
use Rattle.page_space.specs.Extents.{Extent, IsRegion, eden_start}
use Rattle.page_space.proofs.Lists.{contains_none}
use Rattle.page_space.proofs.Standing.{start_of, length_of}
use Rattle.page_space.proofs.Placed.{placed}
use Rattle.page_space.proofs.CellAddresses.{page_ends}
use Rattle.cell_layout.proofs.Rows.{cell_within}
use Rattle.heap_model.specs.Types.{Region, Cell}
use Rattle.heap_model.specs.Heaps.{Heap, Row, EndsUsed, HasCell, words_of_cell}
use Rattle.heap_model.specs.Wholeness.{HasRows}
use Rattle.heap_model.proofs.RowEnds.{one_used_row}
use Rattle.heap_model.proofs.RegionRows.{row_is, row_of}
use Rattle.heap_model.proofs.CellsApart.{cell_extent_stands, ends_within, used_few, first_of_cell}
use Rattle.heap_model.proofs.RowCovers.{from_one, of_one}

-- the cells, if their region is of the young generation
abbrev pub if_young : List Cell → Region → List Cell
if_young cells Eden = cells
if_young cells (Segment half worker) = cells
if_young cells _ = []

-- the cells of a row, if its region is of the young generation
abbrev pub young_of : Row → List Cell
young_of row = if_young row.cells row.extent.region

-- the cells of the young generation, in order
abbrev pub young_cells : List Row → List Cell
young_cells rows = flat_map young_of rows

-- the cell stands in a row of the young generation
pub record IsOfYoung (heap : Heap) (row : Row) (cell : Cell) : Type 0 where
  pub among : Contains row.cells cell
  pub from : eden_start heap.space ≤ row.extent.start

-- a young cell is one of its row, which begins in eden or behind it, kind by kind
young_is_of : (heap : Heap) (row : Row) (cell : Cell) (region : Region)
    → row.extent.start ≡ start_of heap.space region → Contains (if_young row.cells region) cell
    → IsOfYoung heap row cell
young_is_of heap row cell Eden starts there = record { among = there; from = omega (arith, starts) }
young_is_of heap row cell (Segment half worker) starts there =
    record { among = there; from = omega (arith, starts) }
young_is_of heap row cell _ starts there = contains_none [] cell refl there

-- what stands from eden on is no cell of a page, kind by kind
of_young_is : (heap : Heap) (row : Row) (cell : Cell) (region : Region)
    → row.extent.start ≡ start_of heap.space region → IsRegion heap.space region
    → row.end ≤ row.extent.start + length_of heap.space region → EndsUsed heap row.extent row.end region
    → Contains row.cells cell → cell.at < row.end → eden_start heap.space ≤ cell.at
    → Contains (if_young row.cells region) cell
of_young_is heap row cell (Page page) starts is_one within ends there below from =
    absurd (omega (arith, page_ends heap.space page is_one))
of_young_is heap row cell Eden starts is_one within ends there below from = there
of_young_is heap row cell (Segment half worker) starts is_one within ends there below from = there
of_young_is heap row cell _ starts is_one within ends there below from = absurd ends

-- a young cell of the heap
pub record IsYoungOf (heap : Heap) (cell : Cell) : Type 0 where
  pub has : HasCell heap cell (words_of_cell heap cell)
  pub young : eden_start heap.space ≤ cell.at

-- each of the young cells of the rows is one
pub young_has : {heap : Heap} (rows : HasRows heap) (cell : Cell) → Contains (young_cells rows.rows) cell
    → IsYoungOf heap cell
young_has {heap} rows cell there =
    let found = from_one young_of rows.rows cell there in
    let row : Row = found.one in
    let one = row_is row rows.are found.among in
    let place = (placed heap.space row.extent (cell_extent_stands heap.space row.extent one.among)).place in
    let is = young_is_of heap row cell row.extent.region (ap (λ (e : Extent). e.start) place) found.has in
    let within =
    cell_within heap.space heap.words row.extent.start row.end row.cells cell one.used.stands is.among in
    record {
      has = record { row = row; in_region = one.among; used = one.used; in_row = is.among; words_are = refl };
      young = omega (arith, is.from, within.0);
    }

-- and each cell of the heap that stands from eden on is one of them
pub young_in : {heap : Heap} {words : List ℕ} (rows : HasRows heap) (cell : Cell) → HasCell heap cell words
    → eden_start heap.space ≤ cell.at → Contains (young_cells rows.rows) cell
young_in {heap} rows cell has young =
    let found = row_of has.row.extent rows.are has.in_region in
    let row : Row = found.row in
    let one = one_used_row heap row has.row found.is.used has.used found.same in
    let there = subst (λ (cells : List Cell). Contains cells cell) (sym one.cells) has.in_row in
    let place = placed heap.space row.extent (cell_extent_stands heap.space row.extent found.is.among) in
    let few = used_few rows in
    let within = cell_within heap.space heap.words row.extent.start row.end row.cells cell found.is.used.stands there in
    let below : cell.at < row.end = omega (arith, within.1, (first_of_cell has).below) in
    let is = of_young_is heap row cell row.extent.region (ap (λ (e : Extent). e.start) place.place) place.is_region
    (omega (
      arith,
      ends_within heap row few found.is.among found.is.used,
      ap (λ (e : Extent). e.words) place.place,
    ))
    found.is.used.ends there below young in
    of_one young_of rows.rows row cell found.there is
