-- Where the cells of a scavenge stand: in eden, or in the half that is left.
use Rattle.std.proofs.Common.{ℕ, ◌+◌, ◌*◌, ◌<◌, ◌≤◌, ◌≡◌, inl, inr, List, arith, ap, subst}
use Rattle.std.specs.List.{Contains}
use Rattle.std.proofs.Math.Nat.{mul-le-mul_left}
use Rattle.page_space.specs.declared.region.Region.{Region}
use Rattle.page_space.specs.declared.region.Region.TheVariants.{Page, Eden, Segment}
use Rattle.page_space.specs.Extents.{Space, Extent, ContainsAddress, eden_start}
use Rattle.page_space.specs.Extents.{half_segments}
use Rattle.page_space.proofs.Standing.{start_of, length_of}
use Rattle.page_space.proofs.Placed.{placed}
use Rattle.page_space.proofs.Addresses.{IsInRegion}
use Rattle.page_space.proofs.CellAddresses.{page_ends}
use Rattle.cell_layout.proofs.OneCell.{cells_have_words}
use Rattle.cell_layout.proofs.Rows.{cell_within}
use Rattle.heap_model.specs.Types.{Cell}
use Rattle.heap_model.specs.Heaps.{Heap, EndsUsed, HasCell}
use Rattle.heap_model.specs.Wholeness.{HasRows}
use Rattle.heap_model.proofs.CellsApart.{has_is_cell, cell_extent_stands, ends_within, used_few}
use Rattle.scav_copy.proofs.Redirecting.{equal_or_not}
use Rattle.scav_copy.specs.Places.{Fixed}
use Rattle.scavenger.specs.Starts.{Start, IsYoungCell, IsBegun}
use Rattle.scavenger.specs.Following.{IsFromSpace}

-- an address of a segment of the half that is left is left
segment_is_left : (space : Space) (left worker at : ℕ) → IsInRegion space (Segment left worker) at
    → IsFromSpace space left at
segment_is_left space left worker at is =
    let workers : space.sizes.young * (worker + 1) ≤ space.sizes.young * half_segments space =
    mul-le-mul_left space.sizes.young (omega (arith, is.is_region.1)) in
    inr (omega (arith, is.from), omega (arith, is.below, workers))

-- a cell of the young generation that stands in a row of this region, and not in the half that is filled, is left
left_by : (heap : Heap) (half left at end : ℕ) (extent : Extent) (region : Region) → half + left ≡ 1
    → ((worker : ℕ) → region ≡ Segment half worker → ⊥) → eden_start heap.space ≤ at
    → IsInRegion heap.space region at → EndsUsed heap extent end region → IsFromSpace heap.space left at
left_by heap half left at end extent (Page page) other empty young is ends =
    let before = page_ends heap.space page is.is_region in absurd (omega (arith, before, is.below))
left_by heap half left at end extent Eden other empty young is ends = inl (is.from, is.below)
left_by heap half left at end extent (Segment one worker) other empty young is ends =
    elim (equal_or_not one half) [
      | inl same ↦ absurd (empty worker (ap (λ (h : ℕ). Segment h worker) same))
      | inr apart ↦
          let two : one < 2 = is.is_region.0 in
          let rest : one ≡ left = omega (arith, other, apart, two) in
          segment_is_left heap.space left worker at
          (subst (λ (h : ℕ). IsInRegion heap.space (Segment h worker) at) rest is)
    ]
left_by heap half left at end extent _ other empty young is ends = absurd ends

-- the region of a cell's row holds its address
region_holds : {heap : Heap} {cell : Cell} {words : List ℕ} → HasRows heap → (has : HasCell heap cell words)
    → ContainsAddress has.row.extent cell.at
region_holds {heap} {cell} rows has =
    let row = has.row in
    let some = (cells_have_words heap.space heap.words cell (has_is_cell has)).0 in
    let within = cell_within heap.space heap.words row.extent.start row.end row.cells cell has.used.stands has.in_row in
    let ends = ends_within heap row (used_few rows) has.in_region has.used in
    record { from = omega (arith, within.0); below = omega (arith, within.1, some, ends) }

-- a cell of a row is in the row's region
in_own_region : {heap : Heap} {cell : Cell} {words : List ℕ} → HasRows heap → (has : HasCell heap cell words)
    → IsInRegion heap.space has.row.extent.region cell.at
in_own_region {heap} {cell} rows has =
    let extent = has.row.extent in
    let holds = region_holds rows has in
    let there = placed heap.space extent (cell_extent_stands heap.space extent has.in_region) in
    let start : extent.start ≡ start_of heap.space extent.region = ap (λ (e : Extent). e.start) there.place in
    let long : extent.words ≡ length_of heap.space extent.region = ap (λ (e : Extent). e.words) there.place in
    record {
      is_region = there.is_region;
      from = omega (arith, holds.from, start);
      below = omega (arith, holds.below, start, long);
    }

-- a young cell is left
young_is_left : {start : Start} {fixed : Fixed} (left at : ℕ) → IsBegun start fixed → start.half + left ≡ 1
    → IsYoungCell start.heap at → IsFromSpace start.heap.space left at
young_is_left {start} left at begun other young =
    let heap = start.heap in
    let has = young.has in
    let rows = begun.whole.rows in
    let from : eden_start heap.space ≤ young.cell.at = omega (arith, young.young, young.stands) in
    let empty : (worker : ℕ) → has.row.extent.region ≡ Segment start.half worker → ⊥ =
    λ worker is. begun.collectable.empty young.cell young.words has (record {
      extent = has.row.extent;
      among = has.in_region;
      worker = worker;
      segment = is;
      holds = region_holds rows has;
    }) in
    subst (IsFromSpace heap.space left) young.stands
    (left_by heap start.half left young.cell.at has.row.end has.row.extent has.row.extent.region other empty from
    (in_own_region rows has) has.used.ends)

-- each of the cells is left
pub cell_is_left : {start : Start} {fixed : Fixed} (left at : ℕ) → IsBegun start fixed → start.half + left ≡ 1
    → Contains fixed.cells at → IsFromSpace start.heap.space left at
cell_is_left left at begun other there =
    young_is_left left at begun other ((begun.begins.cells at).0 there)
