-- Addresses up to which the cells of a heap may be passed, and the cell that stands at one.
use Rattle.std.proofs.Common.{◌≡◌, ℕ, ◌+◌, ◌-◌, ◌≤◌, ◌<◌, inl, inr, Contains, List, ◌++◌}
use Rattle.std.proofs.Common.{sym, ◌∙◌, ap, subst, arith, append_assoc}
use Rattle.std.proofs.lemmas.Bool.{cases_lt}
use Rattle.heap_model.specs.Types.{Region, Cell}
use Rattle.page_space.specs.Extents.{Space, Stretch, Extent, ContainsAddress, StartsAt, CellsEndAt, words_in, extents}
use Rattle.page_space.specs.Extents.{cell_stretches, root_stretches, layout_stretches, mark_stretches, board_stretches}
use Rattle.page_space.specs.Extents.{extents_from, roots_start}
use Rattle.page_space.proofs.Stretches.{stands_cases}
use Rattle.page_space.proofs.Covering.{between, disjoint}
use Rattle.page_space.proofs.LawsHold.{regions_stand_once}
use Rattle.page_space.proofs.CellEnds.{before_end, end_before_roots}
use Rattle.cell_layout.proofs.Rows.{cell_within, row_ascends}
use Rattle.heap_model.specs.Heaps.{Heap, Row, IsUsedRow, HasCell, cell_extents}
use Rattle.heap_model.specs.Wholeness.{HasRows}
use Rattle.heap_model.proofs.RowEnds.{one_used_row}
use Rattle.heap_model.proofs.CellsApart.{IsOfCell, first_of_cell, cell_extent_stands, ends_within, used_few}
use Rattle.heap_model.proofs.CellsApart.{cells_apart}
use Rattle.heap_model.proofs.Patches.{row_holds}
use Rattle.heap_model.specs.RegionRows.{StandsBetween}
use Rattle.image_walk.specs.NextCell.{IsBoundary}
use Rattle.heap_model.proofs.RegionRows.{row_of}

-- a region begins in one place
pub starts_once : (space : Space) (region : Region) (start : ℕ) (extent : Extent) → StartsAt space region start
    → Contains (extents space) extent → extent.region ≡ region → extent.start ≡ start
starts_once space region start extent starts there of_region =
    ap (λ (e : Extent). e.start)
    (regions_stand_once space extent starts.extent there starts.stands (of_region ∙ sym starts.of_region))
    ∙ starts.starts

-- what begins before the end of the first stretches is one of these
among_first : (xs ys : List Stretch) (extent : Extent) → Contains (extents_from 0 (xs ++ ys)) extent
    → extent.start < words_in xs → Contains (extents_from 0 xs) extent
among_first xs ys extent there below =
    elim (stands_cases 0 xs ys extent there) [
      | inl first ↦ first
      | inr later ↦ absurd (omega (arith, (between (0 + words_in xs) ys extent later).from))
    ]

-- a region that begins before the roots is one of cells
pub among_cells : (space : Space) (extent : Extent) → Contains (extents space) extent → extent.start < roots_start space
    → Contains (cell_extents space) extent
unfolding extents roots_start
among_cells space extent there below =
    let cells = cell_stretches space in
    let roots = root_stretches space in
    let more = roots ++ (layout_stretches ++ (mark_stretches space ++ board_stretches)) in
    let same : cells ++ roots ++ layout_stretches ++ mark_stretches space ++ board_stretches ≡ cells ++ more =
    simp append_assoc in
    let All : List Stretch → Type 0 = λ all. Contains (extents_from 0 all) extent in
    among_first cells more extent (subst All same there) below

-- the used row of the region of cells that an address is in
pub record RowThere (heap : Heap) (at end : ℕ) : Type 0 where
  pub row : Row
  pub among : Contains (cell_extents heap.space) row.extent
  pub used : IsUsedRow heap row
  pub holds : ContainsAddress row.extent at
  pub ends : row.extent.start + row.extent.words ≡ end

-- with whole rows there is one
pub row_there : (heap : Heap) (at end : ℕ) → HasRows heap → CellsEndAt heap.space at end → RowThere heap at end
row_there heap at end rows cells =
    let below : cells.extent.start < roots_start heap.space =
    omega (arith, cells.holds.from, before_end heap.space at end cells, end_before_roots heap.space at end cells) in
    let among = among_cells heap.space cells.extent cells.stands below in
    let own = row_of cells.extent rows.are among in
    record {
      row = own.row;
      among = own.is.among;
      used = own.is.used;
      holds = subst (λ (e : Extent). ContainsAddress e at) (sym own.same) cells.holds;
      ends = ap (λ (e : Extent). e.start + e.words) own.same ∙ cells.ends;
    }

-- a cell with an address in the region of a used row ends where the row does, or before
pub cell_in_row : {heap : Heap} {cell : Cell} {words : List ℕ} (row : Row) (at : ℕ) → HasRows heap
    → HasCell heap cell words → Contains (cell_extents heap.space) row.extent → IsUsedRow heap row
    → ContainsAddress row.extent at
    → cell.at ≤ at → at < cell.at + cell.size → cell.at + cell.size ≤ row.end
cell_in_row {heap} {cell} row at rows has among used holds from below =
    let own = has.row in
    let of_cell : IsOfCell cell at = record { from = from; below = below } in
    let same : own.extent ≡ row.extent =
    disjoint heap.space own.extent row.extent at (cell_extent_stands heap.space own.extent has.in_region)
    (cell_extent_stands heap.space row.extent among) (row_holds rows has.in_region has.used has.in_row of_cell) holds in
    let within = cell_within heap.space heap.words own.extent.start own.end own.cells cell has.used.stands has.in_row in
    omega (arith, within.1, (one_used_row heap own row has.used used same).end)

-- where the address before another is in its region too, or else the region begins there
reached_from : (heap : Heap) (row : Row) (at : ℕ) → IsUsedRow heap row → ContainsAddress row.extent at
    → (row.extent.start < at → at ≤ row.end) → at ≤ row.end
reached_from heap row at used holds inside =
    elim (cases_lt row.extent.start at) [
      | inl within ↦ inside within
      | inr begins ↦
          omega (arith, begins, row_ascends heap.space heap.words row.extent.start row.end row.cells used.stands)
    ]

-- the first address of a region of cells
pub boundary_start : (heap : Heap) (start end : ℕ) → HasRows heap → StandsBetween heap.space start end → start < end
    → IsBoundary heap start
boundary_start heap start end rows stands some =
    let extent = stands.extent in
    let here : ContainsAddress extent start =
    record { from = omega (arith, stands.starts); below = omega (arith, stands.ends, some) } in
    let one =
    λ (other : Extent) (among : Contains (cell_extents heap.space) other) (holds : ContainsAddress other start).
    disjoint heap.space other extent start (cell_extent_stands heap.space other among)
    (cell_extent_stands heap.space extent stands.among) holds here in
    record {
      apart = λ cell words has before. elim (cases_lt start (cell.at + cell.size)) [
        | inl over ↦
            let of_cell : IsOfCell cell start = record { from = omega arith; below = over } in
            let same = one has.row.extent has.in_region (row_holds rows has.in_region has.used has.in_row of_cell) in
            let first = row_holds rows has.in_region has.used has.in_row (first_of_cell has) in
            absurd (omega (arith, first.from, ap (λ (e : Extent). e.start) same, stands.starts, before))
        | inr within ↦ within
      ];
      reached = λ row among used holds. reached_from heap row start used holds (λ within.
          absurd (omega (arith, within, ap (λ (e : Extent). e.start) (one row.extent among holds), stands.starts)));
    }

-- the address behind a cell
pub boundary_behind : (heap : Heap) (cell : Cell) (words : List ℕ) → HasRows heap → HasCell heap cell words
    → IsBoundary heap (cell.at + cell.size)
boundary_behind heap cell words rows has =
    let at : ℕ = cell.at + cell.size in
    let last : ℕ = at - 1 in
    let some = (first_of_cell has).below in
    record {
      apart = λ other others has_other before. elim (cases_lt at (other.at + other.size)) [
        | inl over ↦
            let of_cell : IsOfCell cell last = record { from = omega arith; below = omega arith } in
            let of_other : IsOfCell other last = record { from = omega arith; below = omega arith } in
            let same = cells_apart last rows has has_other of_cell of_other in
            absurd (omega (arith, over, ap (λ (one : Cell). one.at + one.size) same))
        | inr within ↦ within
      ];
      reached = λ row among used holds. reached_from heap row at used holds (λ within.
          let inside : ContainsAddress row.extent last =
          record { from = omega arith; below = omega (arith, holds.below) } in
          cell_in_row row last rows has among used inside (omega arith) (omega arith));
    }

-- the address behind a region of cells
pub boundary_end : (heap : Heap) (at end : ℕ) → HasRows heap → CellsEndAt heap.space at end → IsBoundary heap end
boundary_end heap at end rows cells =
    let last : ℕ = end - 1 in
    let there = row_there heap at end rows cells in
    let extent = there.row.extent in
    let ahead = before_end heap.space at end cells in
    let inside : ContainsAddress extent last =
    record { from = omega (arith, there.holds.from, ahead); below = omega (arith, there.ends, ahead) } in
    let ends = ends_within heap there.row (used_few rows) there.among there.used in
    record {
      apart = λ cell words has before. elim (cases_lt end (cell.at + cell.size)) [
        | inl over ↦
            let within =
            cell_in_row there.row last rows has there.among there.used inside (omega arith) (omega arith) in
            absurd (omega (arith, over, within, ends, there.ends))
        | inr within ↦ within
      ];
      reached = λ row among used holds. reached_from heap row end used holds (λ within.
          let inside_too : ContainsAddress row.extent last =
          record { from = omega arith; below = omega (arith, holds.below) } in
          let same : row.extent ≡ extent =
          disjoint heap.space row.extent extent last (cell_extent_stands heap.space row.extent among)
          (cell_extent_stands heap.space extent there.among) inside_too inside in
          absurd (omega (arith, holds.below, there.ends, ap (λ (e : Extent). e.start + e.words) same)));
    }
