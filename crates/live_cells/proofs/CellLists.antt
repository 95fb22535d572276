-- The cells of all rows of a heap, as a list: they are those of the heap, and each begins behind those before it.
use Rattle.std.proofs.Common.{◌≡◌, ℕ, ◌+◌, ◌<◌, ◌≤◌, List, [], ◌∷◌, map, Contains, refl, sym, ap, subst, arith}
use Rattle.std.specs.List.{AllPairs, flat_map}
use Rattle.std.proofs.lemmas.List.Kept.{AllPairs-cons}
use Rattle.tagged_word.proofs.Members.{first_in, rest_in, in_map}
use Rattle.page_space.specs.Extents.{Space, Stretch, Extent, cell_stretches, extents_from}
use Rattle.page_space.proofs.Covering.{between}
use Rattle.cell_layout.specs.Cells.{IsRow}
use Rattle.cell_layout.proofs.OneCell.{cells_have_words}
use Rattle.cell_layout.proofs.Rows.{row_begins, rows_part_around, cell_within}
use Rattle.heap_model.specs.Types.{Cell}
use Rattle.heap_model.specs.Heaps.{Heap, Row, IsUsedRow, AreRows, HasCell, cell_extents, words_of_cell}
use Rattle.heap_model.proofs.CellsApart.{ends_within}
use Rattle.heap_model.proofs.RegionRows.{row_is, row_of}
use Rattle.heap_model.proofs.RowCovers.{from_one, of_one}
use Rattle.heap_model.proofs.RowEnds.{one_used_row}
use Rattle.live_cells.proofs.SameNumbers.{all_from_each, append_with}

-- one cell begins before another
abbrev pub IsBefore : Cell → Cell → Type 0
IsBefore one other = one.at < other.at

-- the cells of all rows
abbrev pub cells_in : List Row → List Cell
cells_in rows = flat_map (λ row. row.cells) rows

-- the cells of one row ascend
row_ascends : (space : Space) (words : List ℕ) (from to : ℕ) (cells : List Cell) → IsRow space words from to cells
    → AllPairs IsBefore cells
row_ascends space words from to [] row = λ i k d less within. absurd (omega (arith, within))
row_ascends space words from to (cell ∷ cells) row =
    let begins = row_begins row in
    let some = (cells_have_words space words cell begins.is_cell).0 in
    AllPairs-cons IsBefore cell cells
    (all_from_each (IsBefore cell) cells (λ other there.
    let within = cell_within space words (cell.at + cell.size) to cells other begins.rest there in
    omega (arith, some, within.0)))
    (row_ascends space words (cell.at + cell.size) to cells begins.rest)

module _ {heap : Heap} (few : heap.used ≤ heap.space.sizes.young) where
  -- the cells of rows ascend whose regions stand one behind another
  rows_ascend : (start : ℕ) (stretches : List Stretch) (rows : List Row)
      → map (λ row. row.extent) rows ≡ extents_from start stretches
      → ((row : Row) → Contains rows row → IsUsedRow heap row × Contains (cell_extents heap.space) row.extent)
      → AllPairs IsBefore (cells_in rows)
  rows_ascend start stretches [] are each = λ i k d less within. absurd (omega (arith, within))
  rows_ascend start [] (row ∷ rows) are each = absurd (cc)
  rows_ascend start (stretch ∷ stretches) (row ∷ rows) are each =
      let Is : List Extent → Type 0 = λ all. all ≡ extents_from (start + stretch.words) stretches in
      let first : Extent = record { region = stretch.region; start = start; words = stretch.words } in
      let same : row.extent ≡ first = cc in
      let later : map (λ (row : Row). row.extent) rows ≡ extents_from (start + stretch.words) stretches = cc in
      let own = each row (first_in row rows) in
      let ends = ends_within heap row few own.1 own.0 in
      append_with IsBefore row.cells (cells_in rows)
      (row_ascends heap.space heap.words row.extent.start row.end row.cells own.0.stands)
      (rows_ascend (start + stretch.words) stretches rows later
      (λ other there. each other (rest_in row rows other there)))
      (λ cell other there there_too.
      let in_row = cell_within heap.space heap.words row.extent.start row.end row.cells cell own.0.stands there in
      let is_cell = (rows_part_around heap.space heap.words row.extent.start row.end row.cells cell own.0.stands
      there).is_cell in
      let some = (cells_have_words heap.space heap.words cell is_cell).0 in
      let from = from_one (λ (one : Row). one.cells) rows other there_too in
      let its = each from.one (rest_in row rows from.one from.among) in
      let in_other = cell_within heap.space heap.words from.one.extent.start from.one.end from.one.cells other
      its.0.stands from.has in
      let behind = between (start + stretch.words) stretches from.one.extent
      (subst (λ all. Contains all from.one.extent) later (in_map (λ (one : Row). one.extent) rows from.one from.among))
      in
      let starts : row.extent.start ≡ start = ap (λ (e : Extent). e.start) same in
      let long : row.extent.words ≡ stretch.words = ap (λ (e : Extent). e.words) same in
      omega (arith, some, in_row.1, ends, starts, long, behind.from, in_other.0))

module _ {heap : Heap} {rows : List Row} (are : AreRows heap rows) where
  -- the cells of a heap ascend
  pub cells_ascend : heap.used ≤ heap.space.sizes.young → AllPairs IsBefore (cells_in rows)
  cells_ascend few =
      rows_ascend few 0 (cell_stretches heap.space) rows are.everywhere
      (λ row there. let is = row_is row are there in (is.used, is.among))

  -- each cell of the heap is among them
  pub cell_among : {cell : Cell} {words : List ℕ} → HasCell heap cell words → Contains (cells_in rows) cell
  cell_among {cell} has =
      let own = row_of has.row.extent are has.in_region in
      let one = one_used_row heap has.row own.row has.used own.is.used (sym own.same) in
      of_one (λ (row : Row). row.cells) rows own.row cell own.there
      (subst (λ (all : List Cell). Contains all cell) one.cells has.in_row)

  -- and each of them is a cell of the heap
  pub among_has : (cell : Cell) → Contains (cells_in rows) cell → HasCell heap cell (words_of_cell heap cell)
  among_has cell there =
      let from = from_one (λ (row : Row). row.cells) rows cell there in
      let is = row_is from.one are from.among in
      record {
        row = from.one;
        in_region = is.among;
        used = is.used;
        in_row = from.has;
        words_are = refl;
      }
