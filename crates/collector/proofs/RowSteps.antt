-- A count along the used row of a region ends where the region does.
use Rattle.std.proofs.Common.{◌≡◌, ℕ, ◌≤◌}
use Rattle.std.proofs.Common.{subst, arith}
use Rattle.page_space.specs.Extents.{ContainsAddress}
use Rattle.page_space.proofs.Covering.{disjoint}
use Rattle.cell_layout.proofs.Rows.{row_ascends, cell_within}
use Rattle.heap_model.specs.Heaps.{Heap, Row}
use Rattle.heap_model.specs.Wholeness.{HasRows}
use Rattle.heap_model.proofs.CellsApart.{cell_extent_stands, ends_within, first_of_cell, used_few}
use Rattle.heap_model.proofs.Patches.{row_holds}
use Rattle.heap_model.proofs.RowEnds.{one_used_row}
use Rattle.heap_walk.proofs.RowWalks.{Walking}
use Rattle.collector.specs.declared.census.Census.{Census}
use Rattle.collector.specs.Passing.{CountsTo}
use Rattle.live_cells.proofs.CountSteps.{NoneBegins, counts_further}

module _ {heap : Heap} {start end limit at : ℕ} (walking : Walking heap start end limit at) where
  -- the row ends in the region
  pub row_within : HasRows heap → walking.row.end ≤ end
  row_within rows =
      omega (
        arith,
        ends_within heap walking.row (used_few rows) walking.is.among walking.is.used,
        walking.region_ends,
      )

  -- no cell begins in the region after its row
  none_after : HasRows heap → NoneBegins heap walking.row.end end
  none_after rows cell words has object past below =
      let row : Row = walking.row in
      let ascends = row_ascends heap.space heap.words row.extent.start row.end row.cells walking.is.used.stands in
      let here : ContainsAddress row.extent cell.at =
      record { from = omega (arith, ascends, past); below = omega (arith, below, walking.region_ends) } in
      let same = disjoint heap.space has.row.extent row.extent cell.at
      (cell_extent_stands heap.space has.row.extent has.in_region)
      (cell_extent_stands heap.space row.extent walking.is.among)
      (row_holds rows has.in_region has.used has.in_row (first_of_cell has)) here in
      let within = cell_within heap.space heap.words has.row.extent.start has.row.end has.row.cells cell
      has.used.stands has.in_row in
      let one = one_used_row heap has.row row has.used walking.is.used same in
      omega (arith, within.1, one.end, past, (first_of_cell has).below)

  -- so the count comes to the end of the region
  pub counts_to_end : {census : Census} → HasRows heap → at ≡ walking.row.end → CountsTo heap at census
      → CountsTo heap end census
  counts_to_end {census} rows over counts =
      counts_further (row_within rows) (none_after rows)
      (subst (λ (to : ℕ). CountsTo heap to census) over counts)
