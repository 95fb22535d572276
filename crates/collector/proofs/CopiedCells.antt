-- The words of an image, and words that are to become those: the same cells stand in them, in the same rows.
use Rattle.std.proofs.Common.{◌≡◌, ℕ, ◌+◌, ◌<◌, ◌≤◌, ◌⊎◌, inl, inr, List, length, All, Contains, Some, slice_get}
use Rattle.std.proofs.Common.{refl, sym, ◌∙◌, subst, arith}
use Rattle.std.proofs.lemmas.Bool.{cases_lt}
use Rattle.std.proofs.lemmas.List.Elements.{All-weaker, All-contains_itself}
use Rattle.tagged_word.specs.Shapes.{shapes_most}
use Rattle.heap_model.specs.Types.{Region, Cell}
use Rattle.page_space.specs.declared.region.Region.TheVariants.{Page, Eden, Segment}
use Rattle.page_space.specs.Extents.{roots_start, layouts_start, marks_start}
use Rattle.page_space.proofs.Starts.{marks_start_is}
use Rattle.cell_layout.specs.Cells.{IsRow, layouts_in}
use Rattle.cell_layout.specs.CellLaws.{ReadsAlike}
use Rattle.cell_layout.proofs.Rows.{rows_stay}
use Rattle.cell_layout.proofs.CellsThere.{slice_get-layouts_in, slice_get-layouts_past}
use Rattle.heap_model.specs.Heaps.{Heap, Row, EndsUsed, IsUsedRow, HasCell, cell_extents, words_of_cell}
use Rattle.heap_model.specs.Changes.{written}
use Rattle.heap_model.specs.Wholeness.{HasSizes, HasRows, Blank}
use Rattle.heap_model.proofs.RowEnds.{one_used_row}
use Rattle.heap_model.proofs.CellsApart.{IsOfCell, has_is_cell, first_of_cell}
use Rattle.heap_model.proofs.RowCovers.{stretch_alike}
use Rattle.cell_layout.proofs.Puts.{two_words}
use Rattle.heap_model.proofs.WordsAlike.{extent_below_roots}
use Rattle.collector.specs.Images.{AreWordsOf, IsOfSomeCell}
use Rattle.heap_model.proofs.RegionRows.{row_is, row_of}
use Rattle.collector.proofs.RowAddresses.{not_behind}

-- Each word of a cell, each root word and each layout word is the heap's. Each other word of pages, of eden and of the
-- segments is 0, or the heap's.
pub record KeepCells (heap : Heap) (words : List ℕ) : Type 0 where
  pub count : length words ≡ marks_start heap.space
  pub cells : (at : ℕ) → IsOfSomeCell heap (λ cell. Unit {0}) at → slice_get words at ≡ slice_get heap.words at
  pub rest : (at : ℕ) → at < roots_start heap.space → (IsOfSomeCell heap (λ cell. Unit {0}) at → ⊥)
      → (slice_get words at ≡ Some 0) ⊎ (slice_get words at ≡ slice_get heap.words at)
  pub roots : (at : ℕ) → roots_start heap.space ≤ at → at < layouts_start heap.space
      → slice_get words at ≡ slice_get heap.words at
  pub layouts : (at : ℕ) → layouts_start heap.space ≤ at → at < marks_start heap.space
      → slice_get words at ≡ slice_get heap.words at

-- the words of an image do
pub keep_cells : {heap : Heap} {words : List ℕ} → AreWordsOf heap words → KeepCells heap words
keep_cells are = record {
  count = are.count;
  cells = are.cells;
  rest = λ at below none. inl (are.rest at below none);
  roots = are.roots;
  layouts = are.layouts;
}

-- the words keep the cells of a heap whose sizes and rows are right
pub record Copying (heap : Heap) (words : List ℕ) : Type 0 where
  pub sized : HasSizes heap
  pub rows : HasRows heap
  pub are : KeepCells heap words

-- the words of a cell are the heap's
pub cell_word : {heap : Heap} {words : List ℕ} {cell : Cell} {others : List ℕ} (at : ℕ) → Copying heap words
    → HasCell heap cell others → IsOfCell cell at → slice_get words at ≡ slice_get heap.words at
cell_word {cell = cell} {others} at copying has of_cell =
    copying.are.cells at record {
      cell = cell;
      words = others;
      has = has;
      of_cell = record { from = of_cell.from; below = of_cell.below };
      holds = tt;
    }

-- so the cell has the same words
pub cell_words : {heap : Heap} {words : List ℕ} {cell : Cell} {others : List ℕ} → Copying heap words
    → HasCell heap cell others → words_of_cell (written heap words) cell ≡ words_of_cell heap cell
cell_words {heap} {words} {cell} copying has =
    stretch_alike cell.at cell.size heap.words words
    (λ at from below. cell_word at copying has record { from = from; below = below })

-- the layout words are the heap's
layouts_stay : {heap : Heap} {words : List ℕ} (shape : ℕ) → Copying heap words
    → slice_get (layouts_in heap.space words) shape ≡ slice_get (layouts_in heap.space heap.words) shape
layouts_stay {heap} {words} shape copying =
    elim (cases_lt shape shapes_most) [
      | inl below ↦
          let at : ℕ = layouts_start heap.space + shape in
          slice_get-layouts_in heap.space words shape below
          ∙ copying.are.layouts at (omega arith) (omega (arith, marks_start_is heap.space))
          ∙ sym (slice_get-layouts_in heap.space heap.words shape below)
      | inr past ↦
          slice_get-layouts_past heap.space words shape past
          ∙ sym (slice_get-layouts_past heap.space heap.words shape past)
    ]

-- the cell is read off the same words
reads_alike : {heap : Heap} {words : List ℕ} {cell : Cell} {others : List ℕ} → Copying heap words
    → HasCell heap cell others → ReadsAlike heap.space heap.words words cell
reads_alike {heap} {cell = cell} copying has =
    let is_cell = has_is_cell has in
    record {
      first = cell_word cell.at copying has (first_of_cell has);
      second = λ long. cell_word (cell.at + 1) copying has record {
        from = omega arith;
        below = omega (arith, two_words heap.space heap.words cell is_cell long);
      };
      of_shape = layouts_stay cell.header.shape copying;
    }

-- a used row is a row of the same cells
row_stands : {heap : Heap} {words : List ℕ} (row : Row) → Copying heap words
    → Contains (cell_extents heap.space) row.extent → IsUsedRow heap row
    → IsRow heap.space words row.extent.start row.end row.cells
row_stands {heap} {words} row copying among used =
    let has = λ (cell : Cell) (in_row : Contains row.cells cell).
    let one : HasCell heap cell (words_of_cell heap cell) =
    record { row = row; in_region = among; used = used; in_row = in_row; words_are = refl } in
    reads_alike copying one in
    rows_stay heap.space heap.words words row.extent.start row.end row.cells used.stands
    (copying.are.count ∙ sym copying.sized.words)
    (All-weaker (Contains row.cells) (ReadsAlike heap.space heap.words words) has row.cells
    (All-contains_itself row.cells))

-- where the word behind a row is 0, it still is
zero_stays : {heap : Heap} {words : List ℕ} (row : Row) → Copying heap words
    → Contains (cell_extents heap.space) row.extent → IsUsedRow heap row → row.end < row.extent.start + row.extent.words
    → slice_get heap.words row.end ≡ Some 0 → slice_get words row.end ≡ Some 0
zero_stays {heap} {words} row copying among used inside zero =
    elim (copying.are.rest row.end (omega (arith, inside, extent_below_roots heap.space row.extent among))
    (not_behind heap row row.end copying.rows among used (omega arith) inside)) [
      | inl now ↦ now
      | inr same ↦ same ∙ zero
    ]

-- a used row ends where it ended, kind by kind: behind the cells of a segment the word is 0
ends_of : {heap : Heap} {words : List ℕ} (row : Row) (region : Region) → Copying heap words
    → Contains (cell_extents heap.space) row.extent → IsUsedRow heap row → EndsUsed heap row.extent row.end region
    → EndsUsed (written heap words) row.extent row.end region
ends_of row (Page page) copying among used ends = ends
ends_of row Eden copying among used ends = ends
ends_of {heap} row (Segment half worker) copying among used ends = (
  ends.0,
  elim (cases_lt row.end (row.extent.start + row.extent.words)) [
    | inl inside ↦ elim ends.1 [
      | inl at_end ↦ inl at_end
      | inr zero ↦ inr (zero_stays row copying among used inside zero)
    ]
    | inr at_end ↦ inl (omega (arith, ends.0, at_end))
  ],
)
ends_of row _ copying among used ends = ends

-- a used row is one in the words of the image
pub row_stays : {heap : Heap} {words : List ℕ} (row : Row) → Copying heap words
    → Contains (cell_extents heap.space) row.extent → IsUsedRow heap row → IsUsedRow (written heap words) row
row_stays row copying among used = record {
  ends = ends_of row row.extent.region copying among used used.ends;
  stands = row_stands row copying among used;
}

-- the cells of the heap are cells of the image
pub cell_stays : {heap : Heap} {words : List ℕ} {cell : Cell} {others : List ℕ} → Copying heap words
    → HasCell heap cell others → HasCell (written heap words) cell others
cell_stays copying has = record {
  row = has.row;
  in_region = has.in_region;
  used = row_stays has.row copying has.in_region has.used;
  in_row = has.in_row;
  words_are = cell_words copying has ∙ has.words_are;
}

-- and those of the image are cells of the heap
pub cell_stood : {heap : Heap} {words : List ℕ} {cell : Cell} {others : List ℕ} → Copying heap words
    → HasCell (written heap words) cell others → HasCell heap cell others
cell_stood {heap} {words} {cell} copying has =
    let own = row_of has.row.extent copying.rows.are has.in_region in
    let row = own.row in
    let among = own.is.among in
    let used = own.is.used in
    let one =
    one_used_row (written heap words) row has.row (row_stays row copying among used) has.used own.same in
    let stood : HasCell heap cell (words_of_cell heap cell) = record {
      row = row;
      in_region = among;
      used = used;
      in_row = subst (λ (cells : List Cell). Contains cells cell) (sym one.cells) has.in_row;
      words_are = refl;
    } in
    record {
      row = row;
      in_region = among;
      used = used;
      in_row = stood.in_row;
      words_are = sym (cell_words copying stood) ∙ has.words_are;
    }

-- the rows of the heap are those of the image
pub rows_are : {heap : Heap} {words : List ℕ} (copying : Copying heap words)
    → All (IsUsedRow (written heap words)) copying.rows.rows
rows_are {heap} {words} copying =
    let rows = copying.rows in
    let used = λ (row : Row) (there : Contains rows.rows row).
    let is = row_is row rows.are there in
    row_stays row copying is.among is.used in
    All-weaker (Contains rows.rows) (IsUsedRow (written heap words)) used rows.rows (All-contains_itself rows.rows)

-- the image has rows
pub has_rows : {heap : Heap} {words : List ℕ} → Copying heap words → HasRows (written heap words)
has_rows copying = record {
  rows = copying.rows.rows;
  are = record { everywhere = copying.rows.are.everywhere; each = rows_are copying };
  counted = copying.rows.counted;
  few = copying.rows.few;
}

-- and the right sizes
pub has_sizes : {heap : Heap} {words : List ℕ} → Copying heap words → HasSizes (written heap words)
has_sizes {heap} copying = record {
  words = copying.are.count;
  shapes = copying.sized.shapes;
  layouts = λ shape below.
      copying.are.layouts (layouts_start heap.space + shape) (omega arith) (omega (arith, marks_start_is heap.space))
      ∙ copying.sized.layouts shape below;
}

-- the image is blank
pub is_blank : {heap : Heap} {words : List ℕ} → Copying heap words → AreWordsOf heap words → Blank (written heap words)
is_blank {heap} copying are =
    let rows = copying.rows in
    record {
      rows = rows.rows;
      are = record { everywhere = rows.are.everywhere; each = rows_are copying };
      rest = λ row at there past below.
          let is = row_is row rows.are there in
          are.rest at (omega (arith, below, extent_below_roots heap.space row.extent is.among))
          (not_behind heap row at rows is.among is.used past below);
    }
