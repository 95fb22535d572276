-- Two cells of a heap that share an address are one.
use Rattle.std.proofs.Common.{◌≡◌, ℕ, ◌+◌, ◌≤◌, ◌<◌, inl, inr, List, ◌∷◌, ◌++◌, Contains}
use Rattle.std.proofs.Common.{sym, ◌∙◌, ap, subst, arith}
use Rattle.std.proofs.lemmas.List.Elements.{Contains-append_cases}
use Rattle.tagged_word.proofs.Members.{in_cases}
use Rattle.heap_model.specs.Types.{Region, Cell}
use Rattle.page_space.specs.declared.region.Region.TheVariants.{Page, Eden, Segment}
use Rattle.page_space.specs.Extents.{Space, Extent, ContainsAddress, extents, cell_stretches, root_stretches}
use Rattle.page_space.specs.Extents.{layout_stretches}
use Rattle.page_space.specs.Extents.{mark_stretches, board_stretches}
use Rattle.page_space.proofs.Stretches.{stands_first}
use Rattle.page_space.proofs.Covering.{disjoint}
use Rattle.page_space.proofs.Standing.{length_of}
use Rattle.page_space.proofs.Placed.{placed}
use Rattle.cell_layout.specs.Cells.{IsCell, IsRow}
use Rattle.cell_layout.proofs.OneCell.{one_cell, cells_have_words}
use Rattle.cell_layout.proofs.Rows.{rows_part_around, cell_within}
use Rattle.heap_model.specs.Heaps.{Heap, Row, EndsUsed, IsUsedRow, HasCell, cell_extents}
use Rattle.heap_model.specs.Wholeness.{HasRows}
use Rattle.heap_model.proofs.RowEnds.{one_used_row}

-- the address is one of the cell's
pub record IsOfCell (cell : Cell) (at : ℕ) : Type 0 where
  pub from : cell.at ≤ at
  pub below : at < cell.at + cell.size

-- what a heap has is a cell of its words
pub has_is_cell : {heap : Heap} {cell : Cell} {words : List ℕ} → HasCell heap cell words
    → IsCell heap.space heap.words cell
has_is_cell {heap} {cell} has =
    let row = has.row in
    (rows_part_around heap.space heap.words row.extent.start row.end row.cells cell has.used.stands has.in_row).is_cell

-- the cell at an address is one
pub one_at : {heap : Heap} {cell other : Cell} {words others : List ℕ} → HasCell heap cell words
    → HasCell heap other others → cell.at ≡ other.at → cell ≡ other
one_at {heap} {cell} {other} has has_other same =
    one_cell heap.space heap.words cell other (has_is_cell has) (has_is_cell has_other) same

-- a cell has one list of words
pub one_words : {heap : Heap} {cell : Cell} {words others : List ℕ} → HasCell heap cell words → HasCell heap cell others
    → words ≡ others
one_words has has_other = sym has.words_are ∙ has_other.words_are

-- a cell has an address
pub first_of_cell : {heap : Heap} {cell : Cell} {words : List ℕ} → HasCell heap cell words → IsOfCell cell cell.at
first_of_cell {heap} {cell} has =
    let some = (cells_have_words heap.space heap.words cell (has_is_cell has)).0 in
    record { from = omega arith; below = omega (arith, some) }

-- the regions of cells are regions of the heap
pub cell_extent_stands : (space : Space) (extent : Extent) → Contains (cell_extents space) extent
    → Contains (extents space) extent
unfolding extents
cell_extent_stands space extent there =
    let roots = cell_stretches space ++ root_stretches space in
    let layouts = roots ++ layout_stretches in
    let marks = layouts ++ mark_stretches space in
    stands_first 0 marks board_stretches extent
    (stands_first 0 layouts (mark_stretches space) extent
    (stands_first 0 roots layout_stretches extent
    (stands_first 0 (cell_stretches space) (root_stretches space) extent there)))

-- a used row ends in its region, kind by kind
ends_within_of : (heap : Heap) (extent : Extent) (end : ℕ) (region : Region) → heap.used ≤ heap.space.sizes.young
    → extent.words ≡ length_of heap.space region → EndsUsed heap extent end region → end ≤ extent.start + extent.words
ends_within_of heap extent end (Page page) few long ends = omega arith
ends_within_of heap extent end Eden few long ends = omega arith
ends_within_of heap extent end (Segment half worker) few long ends = ends.0
ends_within_of heap extent end _ few long ends = absurd ends

-- a used row ends in its region, where no more words of eden are used than it has
pub ends_within : (heap : Heap) (row : Row) → heap.used ≤ heap.space.sizes.young
    → Contains (cell_extents heap.space) row.extent → IsUsedRow heap row → row.end ≤ row.extent.start + row.extent.words
ends_within heap row few there used =
    let place = (placed heap.space row.extent (cell_extent_stands heap.space row.extent there)).place in
    ends_within_of heap row.extent row.end row.extent.region few (ap (λ extent. extent.words) place) used.ends

-- so few words of eden are used
pub used_few : {heap : Heap} → HasRows heap → heap.used ≤ heap.space.sizes.young
used_few rows = omega (arith, rows.few)

-- the region of a cell's row holds the cell's addresses
row_holds : {heap : Heap} {cell : Cell} {words : List ℕ} (at : ℕ) → heap.used ≤ heap.space.sizes.young
    → (has : HasCell heap cell words) → IsOfCell cell at → ContainsAddress has.row.extent at
row_holds {heap} {cell} at few has of_cell =
    let row = has.row in
    let within = cell_within heap.space heap.words row.extent.start row.end row.cells cell has.used.stands has.in_row in
    let ends = ends_within heap row few has.in_region has.used in
    record { from = omega (arith, within.0, of_cell.from); below = omega (arith, within.1, of_cell.below, ends) }

-- two cells of one row that share an address are one
pub one_of_row : (space : Space) (words : List ℕ) (from to : ℕ) (cells : List Cell) (cell other : Cell) (at : ℕ)
    → IsRow space words from to cells → Contains cells cell → Contains cells other → IsOfCell cell at
    → IsOfCell other at
    → cell ≡ other
one_of_row space words from to cells cell other at row has has_other of_cell of_other =
    let parts = rows_part_around space words from to cells cell row has in
    let P : List Cell → Type 0 = λ some. Contains some other in
    let there = subst P parts.joined has_other in
    elim (Contains-append_cases parts.before (cell ∷ parts.behind) other there) [
      | inl before ↦
          let within = cell_within space words from cell.at parts.before other parts.first before in
          absurd (omega (arith, within.1, of_cell.from, of_other.below))
      | inr rest ↦ elim (in_cases cell parts.behind other rest) [
        | inl same ↦ same
        | inr behind ↦
            let within = cell_within space words (cell.at + cell.size) to parts.behind other parts.rest behind in
            absurd (omega (arith, within.0, of_cell.below, of_other.from))
      ]
    ]

-- two cells of a heap that share an address are one
pub cells_apart : {heap : Heap} {cell other : Cell} {words others : List ℕ} (at : ℕ) → HasRows heap
    → HasCell heap cell words → HasCell heap other others → IsOfCell cell at → IsOfCell other at → cell ≡ other
cells_apart {heap} {cell} {other} at rows has has_other of_cell of_other =
    let few = used_few rows in
    let same : has.row.extent ≡ has_other.row.extent =
    disjoint heap.space has.row.extent has_other.row.extent at
    (cell_extent_stands heap.space has.row.extent has.in_region)
    (cell_extent_stands heap.space has_other.row.extent has_other.in_region)
    (row_holds at few has of_cell) (row_holds at few has_other of_other) in
    let one = one_used_row heap has.row has_other.row has.used has_other.used same in
    let P : List Cell → Type 0 = λ some. Contains some other in
    one_of_row heap.space heap.words has.row.extent.start has.row.end has.row.cells cell other at
    has.used.stands has.in_row
    (subst P (sym one.cells) has_other.in_row) of_cell of_other
