-- The row of a region has each patch that has an address of the region.
use Rattle.std.proofs.Common.{◌≡◌, ℕ, ◌-◌, ◌≤◌, ◌<◌, List, Contains}
use Rattle.std.proofs.Common.{ap, arith}
use Rattle.page_space.specs.Extents.{Extent, ContainsAddress}
use Rattle.page_space.proofs.Covering.{disjoint}
use Rattle.heap_model.specs.Types.{Cell}
use Rattle.cell_layout.proofs.Rows.{cell_within}
use Rattle.heap_model.specs.Heaps.{Heap, Row, IsUsedRow, cell_extents}
use Rattle.heap_model.specs.Changes.{Patch, IsPatch, IsPatched}
use Rattle.heap_model.proofs.RowEnds.{one_used_row}
use Rattle.heap_model.proofs.CellsApart.{cell_extent_stands}
use Rattle.heap_model.proofs.RowCovers.{covered}
use Rattle.heap_model.proofs.Patches.{Patching, patch_is, before_in_row, row_holds}

-- a used row of the old heap, and patches
pub record RowPatching (old new : Heap) (patches : List Patch) (made : List Cell) (row : Row) : Type 0 where
  pub patching : Patching old new patches made
  pub there : Contains (cell_extents old.space) row.extent
  pub used : IsUsedRow old row

-- the patch is a part of the row
pub record IsInRow (row : Row) (patch : Patch) : Type 0 where
  pub from : row.extent.start ≤ patch.from
  pub to : patch.to ≤ row.end

-- a patch with words is a part of its own row
pub in_own_row : {old new : Heap} {patch : Patch} (at : ℕ) (is : IsPatch old new patch) → IsPatched at patch
    → IsInRow is.row patch
in_own_row {old} {patch = patch} at is patched =
    let row : Row = is.row in
    let cover = λ (k : ℕ) (above : patch.from ≤ k) (below : k < patch.to).
    covered old.space old.words patch.from patch.to patch.before k is.stood above below in
    let first = cover patch.from (omega arith) (omega (arith, patched.from, patched.below)) in
    let last = cover (patch.to - 1) (omega (arith, patched.from, patched.below))
    (omega (arith, patched.from, patched.below)) in
    let begins = cell_within old.space old.words row.extent.start row.end row.cells first.cell is.used.stands
    (before_in_row is first.among) in
    let ends = cell_within old.space old.words row.extent.start row.end row.cells last.cell is.used.stands
    (before_in_row is last.among) in
    record {
      from = omega (arith, begins.0, first.of_cell.from);
      to = omega (arith, ends.1, last.of_cell.below, patched.from, patched.below);
    }

-- a patch with an address of a region is a part of the region's row
pub patch_in_row : {old new : Heap} {patches : List Patch} {made : List Cell} {row : Row} {patch : Patch} {at : ℕ}
    → RowPatching old new patches made row → Contains patches patch → IsPatched at patch → ContainsAddress row.extent at
    → IsInRow row patch
patch_in_row {old} {new} {row = row} {patch} {at} context there patched holds =
    let is : IsPatch old new patch = patch_is context.patching there in
    let one = covered old.space old.words patch.from patch.to patch.before at is.stood patched.from patched.below in
    let holds_too : ContainsAddress is.row.extent at =
    row_holds context.patching.rows is.in_region is.used (before_in_row is one.among) one.of_cell in
    let same : is.row.extent ≡ row.extent =
    disjoint old.space is.row.extent row.extent at (cell_extent_stands old.space is.row.extent is.in_region)
    (cell_extent_stands old.space row.extent context.there) holds_too holds in
    let ends = one_used_row old is.row row is.used context.used same in
    let part = in_own_row at is patched in
    let start : is.row.extent.start ≡ row.extent.start = ap (λ (extent : Extent). extent.start) same in
    record { from = omega (arith, part.from, start); to = omega (arith, part.to, ends.end) }
