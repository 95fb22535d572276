-- Which addresses of a region are of cells: those of its used row, and no others.
use Rattle.std.proofs.Common.{◌≡◌, ℕ, ◌+◌, ◌*◌, ◌/◌, ◌≤◌, ◌<◌, Contains, refl, subst, arith}
use Rattle.page_space.specs.declared.region.Region.TheVariants.{Page}
use Rattle.page_space.specs.Sizes.{page_words}
use Rattle.page_space.specs.Extents.{Extent, ContainsAddress, eden_start}
use Rattle.page_space.proofs.Standing.{extent_of}
use Rattle.page_space.proofs.Covering.{disjoint}
use Rattle.cell_layout.proofs.Rows.{cell_within, row_ascends}
use Rattle.heap_model.specs.Heaps.{Heap, Row, EndsUsed, IsUsedRow, cell_extents, words_of_cell}
use Rattle.heap_model.specs.Wholeness.{HasRows}
use Rattle.heap_model.proofs.RowEnds.{one_used_row}
use Rattle.heap_model.proofs.CellsApart.{IsOfCell, cell_extent_stands}
use Rattle.heap_model.proofs.RowCovers.{covered}
use Rattle.heap_model.proofs.RegionRows.{row_of}
use Rattle.heap_model.proofs.Patches.{row_holds}
use Rattle.write_barrier.proofs.FirstRuns.{page_among}
use Rattle.collector.specs.Images.{IsOfSomeCell}

-- each address of a used row is of a cell
pub of_row : (heap : Heap) (row : Row) (at : ℕ) → Contains (cell_extents heap.space) row.extent → IsUsedRow heap row
    → row.extent.start ≤ at → at < row.end → IsOfSomeCell heap (λ cell. Unit {0}) at
of_row heap row at among used from below =
    let one = covered heap.space heap.words row.extent.start row.end row.cells at used.stands from below in
    record {
      cell = one.cell;
      words = words_of_cell heap one.cell;
      has = record { row = row; in_region = among; used = used; in_row = one.among; words_are = refl };
      of_cell = record { from = one.of_cell.from; below = one.of_cell.below };
      holds = tt;
    }

-- no address of a region behind its used row is
pub not_behind : (heap : Heap) (row : Row) (at : ℕ) → HasRows heap → Contains (cell_extents heap.space) row.extent
    → IsUsedRow heap row → row.end ≤ at → at < row.extent.start + row.extent.words
    → IsOfSomeCell heap (λ cell. Unit {0}) at → ⊥
not_behind heap row at rows among used past below of_some =
    let has = of_some.has in
    let own = has.row in
    let of_cell : IsOfCell of_some.cell at = record { from = of_some.of_cell.from; below = of_some.of_cell.below } in
    let ascends = row_ascends heap.space heap.words row.extent.start row.end row.cells used.stands in
    let here : ContainsAddress row.extent at = record { from = omega (arith, ascends, past); below = below } in
    let same : own.extent ≡ row.extent =
    disjoint heap.space own.extent row.extent at (cell_extent_stands heap.space own.extent has.in_region)
    (cell_extent_stands heap.space row.extent among) (row_holds rows has.in_region has.used has.in_row of_cell) here in
    let within =
    cell_within heap.space heap.words own.extent.start own.end own.cells of_some.cell has.used.stands has.in_row in
    omega (arith, within.1, (one_used_row heap own row has.used used same).end, past, of_cell.below)

-- each address of a page is
pub of_page : (heap : Heap) (at : ℕ) → HasRows heap → at < eden_start heap.space
    → IsOfSomeCell heap (λ cell. Unit {0}) at
of_page heap at rows below =
    let page : ℕ = at / page_words in
    let own = row_of (extent_of heap.space (Page page)) rows.are (page_among heap.space page (omega arith)) in
    let row = own.row in
    let ends : row.end ≡ page_words * page + page_words =
    subst (λ (extent : Extent). EndsUsed heap extent row.end extent.region) own.same own.is.used.ends in
    of_row heap row at own.is.among own.is.used (omega (arith, own.is.starts)) (omega (arith, ends))
