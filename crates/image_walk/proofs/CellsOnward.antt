-- The cell at an address up to which the cells of a heap were passed, and the next one from there.
use Rattle.std.proofs.Common.{◌≡◌, ℕ, ◌+◌, ◌≤◌, ◌<◌, ◌⊎◌, inl, inr, List, Option, Some, None, refl}
use Rattle.std.proofs.Common.{sym, subst, arith, MatchOption, slice_get}
use Rattle.std.proofs.lemmas.Bool.{cases_lt}
use Rattle.heap_model.specs.Types.{Region, Cell}
use Rattle.page_space.specs.declared.region.Region.TheVariants.{Page, Eden, Segment}
use Rattle.page_space.specs.Extents.{Extent, ContainsAddress, CellsEndAt, roots_start}
use Rattle.page_space.proofs.CellEnds.{before_end}
use Rattle.page_space.proofs.Covering.{disjoint}
use Rattle.cell_layout.specs.Cells.{IsCell, HasNoCell}
use Rattle.cell_layout.proofs.OneCell.{one_cell}
use Rattle.heap_model.specs.Heaps.{Heap, EndsUsed, HasCell}
use Rattle.heap_model.specs.Wholeness.{HasRows}
use Rattle.heap_model.proofs.RowEnds.{first_word_counts}
use Rattle.heap_model.proofs.CellsApart.{IsOfCell, has_is_cell, first_of_cell, cell_extent_stands, used_few}
use Rattle.heap_model.proofs.CellsApart.{cells_apart}
use Rattle.heap_model.proofs.RowCovers.{covered}
use Rattle.heap_model.proofs.WordsAlike.{cell_below_roots}
use Rattle.image_walk.specs.Finding.{HasNoCellFrom, HasNoCellOf}
use Rattle.image_walk.specs.Spans.{StandsIn}
use Rattle.image_walk.specs.NextCell.{IsBoundary, IsUsedAt, IsNextCell}
use Rattle.image_walk.proofs.Boundaries.{RowThere, row_there, cell_in_row, boundary_behind, boundary_end}

-- before the end of the row a cell stands at the address
stands_at : (heap : Heap) (at end : ℕ) (there : RowThere heap at end) → IsBoundary heap at → at < there.row.end
    → (cell : Cell) × (cell.at ≡ at) × StandsIn heap cell
stands_at heap at end there boundary before =
    let row = there.row in
    let found = covered heap.space heap.words row.extent.start row.end row.cells at there.used.stands there.holds.from
    before in
    let cell = found.cell in
    let has : StandsIn heap cell =
    record { row = row; in_region = there.among; used = there.used; in_row = found.among; words_are = refl } in
    elim (cases_lt cell.at at) [
      | inl over ↦ absurd (omega (arith, boundary.apart cell _ has over, found.of_cell.below))
      | inr from ↦ (cell, omega (arith, from, found.of_cell.from), has)
    ]

-- behind it no cell of the region stands
none_there : (heap : Heap) (at end : ℕ) (there : RowThere heap at end) → HasRows heap → there.row.end ≤ at
    → HasNoCellOf heap at end at
none_there heap at end there rows past cell words has from below =
    let row = there.row in
    let holds : ContainsAddress row.extent cell.at =
    record { from = omega (arith, there.holds.from, from); below = omega (arith, there.ends, below) } in
    let some = (first_of_cell has).below in
    let within = cell_in_row row cell.at rows has there.among there.used holds (omega arith) some in
    absurd (omega (arith, within, some, past, from))

-- where the used row ends before its region, the words there read as no cell, kind by kind
no_cell_of : (heap : Heap) (extent : Extent) (at : ℕ) (region : Region) (cell : Cell) → EndsUsed heap extent at region
    → (region ≡ Eden → at < extent.start + heap.used) → at < extent.start + extent.words
    → IsCell heap.space heap.words cell → cell.at ≡ at → ⊥
no_cell_of heap extent at (Page page) cell ends used below is_cell same = omega (arith, ends, below)
no_cell_of heap extent at Eden cell ends used below is_cell same = omega (arith, ends, used refl)
no_cell_of heap extent at (Segment half worker) cell ends used below is_cell same = elim ends.1 [
  | inl last ↦ omega (arith, last, below)
  | inr zero ↦
      first_word_counts heap.space heap.words cell is_cell
      (subst (λ a. slice_get heap.words a ≡ Some 0) (sym same) zero)
]
no_cell_of heap extent at _ cell ends used below is_cell same = ends

-- so a word of the heap that reads as a cell at the address is before the end of the row
before_row_end : (heap : Heap) (at end : ℕ) (there : RowThere heap at end) (cell : Cell) → IsBoundary heap at
    → IsUsedAt heap at → IsCell heap.space heap.words cell → cell.at ≡ at → there.row.end ≤ at → ⊥
before_row_end heap at end there cell boundary used is_cell same past =
    let row = there.row in
    let reached = boundary.reached row there.among there.used there.holds in
    let is : row.end ≡ at = omega arith in
    no_cell_of heap row.extent at row.extent.region cell (subst (λ a. EndsUsed heap row.extent a row.extent.region) is
    there.used.ends)
    (λ eden. used row.extent (cell_extent_stands heap.space row.extent there.among) eden there.holds)
    there.holds.below is_cell same

-- before the end of the row the address is none of eden's behind its used words
used_before : (heap : Heap) (at end : ℕ) (there : RowThere heap at end) → at < there.row.end → IsUsedAt heap at
used_before heap at end there before extent stands eden holds =
    let row = there.row in
    let same : row.extent ≡ extent =
    disjoint heap.space row.extent extent at (cell_extent_stands heap.space row.extent there.among) stands there.holds
    holds in
    let Ends : Extent → Type 0 = λ e. EndsUsed heap e row.end e.region in
    let ends : EndsUsed heap extent row.end extent.region = subst Ends same there.used.ends in
    let is : row.end ≡ extent.start + heap.used =
    subst (λ region. EndsUsed heap extent row.end region) eden ends in
    omega (arith, before, is)

-- what the words at the address read as is the next cell of the row, if they are none of eden's unused
pub next_there : (heap : Heap) (at end : ℕ) (found : Option Cell) → HasRows heap → IsBoundary heap at
    → CellsEndAt heap.space at end → IsUsedAt heap at
    → MatchOption found (HasNoCell heap.space heap.words at)
    (λ cell. (cell.at ≡ at) × IsCell heap.space heap.words cell)
    → MatchOption found (HasNoCellOf heap at end at) (λ cell. (cell.at ≡ at) × StandsIn heap cell)
next_there heap at end None rows boundary cells used none =
    let there = row_there heap at end rows cells in
    elim (cases_lt at there.row.end) [
      | inl before ↦
          let stands = stands_at heap at end there boundary before in
          absurd (none stands.0 stands.1 (has_is_cell stands.2))
      | inr past ↦ none_there heap at end there rows past
    ]
next_there heap at end (Some cell) rows boundary cells used is =
    let there = row_there heap at end rows cells in
    elim (cases_lt at there.row.end) [
      | inl before ↦
          let stands = stands_at heap at end there boundary before in
          let same : stands.0 ≡ cell =
          one_cell heap.space heap.words stands.0 cell (has_is_cell stands.2) is.1 (omega (arith, stands.1, is.0)) in
          (is.0, subst (StandsIn heap) same stands.2)
      | inr past ↦ absurd (before_row_end heap at end there cell boundary used is.1 is.0 past)
    ]

-- no cell of the region stands at the address or behind it where that is one of eden's behind its used words
pub none_unused : (heap : Heap) (at end : ℕ) → HasRows heap → CellsEndAt heap.space at end → (IsUsedAt heap at → ⊥)
    → HasNoCellOf heap at end at
none_unused heap at end rows cells unused =
    let there = row_there heap at end rows cells in
    elim (cases_lt at there.row.end) [
      | inl before ↦ absurd (unused (used_before heap at end there before))
      | inr past ↦ none_there heap at end there rows past
    ]

-- the walk from one address has come to another, and no cell stands in between
pub record IsPassed (heap : Heap) (from at : ℕ) : Type 0 where
  pub boundary : IsBoundary heap at
  pub ahead : from ≤ at
  pub none : (cell : Cell) (words : List ℕ) → HasCell heap cell words → from ≤ cell.at → at ≤ cell.at

-- a region, or its rest, without a cell was passed
pub passed_region : (heap : Heap) (from at end : ℕ) → HasRows heap → IsPassed heap from at
    → CellsEndAt heap.space at end → HasNoCellOf heap at end at → IsPassed heap from end
passed_region heap from at end rows passed cells none = record {
  boundary = boundary_end heap at end rows cells;
  ahead = omega (arith, passed.ahead, before_end heap.space at end cells);
  none = λ cell words has reached. elim (cases_lt cell.at end) [
    | inl below ↦
        let behind = passed.none cell words has reached in
        absurd (omega (arith, behind, none cell words has behind below))
    | inr past ↦ past
  ];
}

-- a cell at the address to which the walk has come is the next one
pub passed_to_cell : (heap : Heap) (from at : ℕ) (cell : Cell) → HasRows heap → IsPassed heap from at → cell.at ≡ at
    → StandsIn heap cell → IsNextCell heap from cell
passed_to_cell heap from at cell rows passed here stands = record {
  first = record {
    has = stands;
    reached = omega (arith, passed.ahead, here);
    first = λ other words has reached. omega (arith, here, passed.none other words has reached);
  };
  onward = boundary_behind heap cell _ rows stands;
}

-- at the roots no cell is left
pub passed_all : (heap : Heap) (from at : ℕ) → HasRows heap → IsPassed heap from at → roots_start heap.space ≤ at
    → HasNoCellFrom heap from
passed_all heap from at rows passed past cell words has =
    elim (cases_lt cell.at from) [
      | inl below ↦ below
      | inr reached ↦
          let behind = passed.none cell words has reached in
          absurd (omega (arith, behind, past, cell_below_roots (used_few rows) has, (first_of_cell has).below))
    ]

-- a cell before the end of the next one was passed, or is the next one
pub passed_or_next : (heap : Heap) (at : ℕ) (next cell : Cell) → HasRows heap → IsNextCell heap at next
    → StandsIn heap cell → cell.at < next.at + next.size → (cell.at < at) ⊎ (next ≡ cell)
passed_or_next heap at next cell rows is stands before = elim (cases_lt cell.at at) [
  | inl early ↦ inl early
  | inr from ↦
      let behind = is.first.first cell _ stands from in
      let of_next : IsOfCell next cell.at = record { from = behind; below = before } in
      inr (cells_apart cell.at rows is.first.has stands of_next (first_of_cell stands))
]

-- the walk from the address on goes up, and stays before the roots
pub onward_below_roots : (heap : Heap) (at : ℕ) (next : Cell) → HasRows heap → IsNextCell heap at next
    → (at < next.at + next.size) × (next.at + next.size ≤ roots_start heap.space)
onward_below_roots heap at next rows is = (
  omega (arith, is.first.reached, (first_of_cell is.first.has).below),
  cell_below_roots (used_few rows) is.first.has,
)
