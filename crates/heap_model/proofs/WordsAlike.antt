-- Words that are alike everywhere but in the roots: the same cells stand in them.
use Rattle.std.proofs.Common.{◌≡◌, ℕ, ◌+◌, ◌<◌, ◌≤◌, inl, inr, List, length, Contains, slice_get}
use Rattle.std.proofs.Common.{slice_range, sym, ◌∙◌, arith}
use Rattle.std.proofs.lemmas.Bool.{cases_lt}
use Rattle.std.proofs.lemmas.List.Elements.{All-weaker, All-contains_itself}
use Rattle.tagged_word.specs.Shapes.{shapes_most}
use Rattle.heap_model.specs.Types.{Region, Cell}
use Rattle.page_space.specs.declared.region.Region.TheVariants.{Page, Eden, Segment}
use Rattle.page_space.specs.Extents.{Space, Extent, cell_stretches, roots_start, layouts_start}
use Rattle.page_space.proofs.Covering.{between}
use Rattle.cell_layout.specs.Cells.{IsCell, IsRow, layouts_in}
use Rattle.cell_layout.specs.CellLaws.{ReadsAlike}
use Rattle.cell_layout.proofs.OneCell.{cells_have_words}
use Rattle.cell_layout.proofs.Rows.{rows_part_around, rows_stay, cell_within}
use Rattle.cell_layout.proofs.CellsThere.{slice_get-layouts_in, slice_get-layouts_past}
use Rattle.cell_layout.proofs.Puts.{two_words}
use Rattle.heap_model.specs.Heaps.{Heap, Row, EndsUsed, IsUsedRow, HasCell, cell_extents}
use Rattle.heap_model.specs.Wholeness.{HasSizes, HasRows}
use Rattle.heap_model.proofs.RegionRows.{row_is}
use Rattle.heap_model.proofs.CellsApart.{ends_within, used_few}

-- the heap with other words
abbrev pub with_words : Heap → List ℕ → Heap
with_words heap words = record heap { words = words }

-- the words are as many, and alike everywhere but in the roots
pub record AreAlike (space : Space) (words other : List ℕ) : Type 0 where
  pub long : length other ≡ length words
  pub cells : (at : ℕ) → at < roots_start space → slice_get other at ≡ slice_get words at
  pub parts : (from to : ℕ) → to ≤ roots_start space → slice_range other from to ≡ slice_range words from to
  pub layouts : (shape : ℕ)
      → slice_get other (layouts_start space + shape) ≡ slice_get words (layouts_start space + shape)

-- and the other way round
pub alike_back : {space : Space} {words other : List ℕ} → AreAlike space words other → AreAlike space other words
alike_back alike = record {
  long = sym alike.long;
  cells = λ at below. sym (alike.cells at below);
  parts = λ from to below. sym (alike.parts from to below);
  layouts = λ shape. sym (alike.layouts shape);
}

-- the regions of cells end before the roots
pub extent_below_roots : (space : Space) (extent : Extent) → Contains (cell_extents space) extent
    → extent.start + extent.words ≤ roots_start space
unfolding roots_start
extent_below_roots space extent there = omega (arith, (between 0 (cell_stretches space) extent there).below)

-- each cell of a heap ends before the roots
pub cell_below_roots : {heap : Heap} {cell : Cell} {words : List ℕ} → heap.used ≤ heap.space.sizes.young
    → HasCell heap cell words → cell.at + cell.size ≤ roots_start heap.space
cell_below_roots {heap} {cell} few has =
    let row = has.row in
    let within = cell_within heap.space heap.words row.extent.start row.end row.cells cell has.used.stands has.in_row in
    omega (
      arith,
      within.1,
      ends_within heap row few has.in_region has.used,
      extent_below_roots heap.space row.extent has.in_region,
    )

-- the layout words are alike
layouts_alike : (space : Space) (words other : List ℕ) (shape : ℕ) → AreAlike space words other
    → slice_get (layouts_in space other) shape ≡ slice_get (layouts_in space words) shape
layouts_alike space words other shape alike =
    elim (cases_lt shape shapes_most) [
      | inl below ↦
          slice_get-layouts_in space other shape below ∙ alike.layouts shape
          ∙ sym (slice_get-layouts_in space words shape below)
      | inr past ↦ slice_get-layouts_past space other shape past ∙ sym (slice_get-layouts_past space words shape past)
    ]

-- a cell before the roots reads alike
reads_alike : (space : Space) (words other : List ℕ) (cell : Cell) → AreAlike space words other
    → IsCell space words cell
    → cell.at + cell.size ≤ roots_start space → 1 ≤ cell.size → ReadsAlike space words other cell
reads_alike space words other cell alike is_cell below some = record {
  first = alike.cells cell.at (omega arith);
  second = λ has. alike.cells (cell.at + 1) (omega (arith, two_words space words cell is_cell has));
  of_shape = layouts_alike space words other cell.header.shape alike;
}

-- a row before the roots stands in the other words
row_alike : (space : Space) (words other : List ℕ) (from to : ℕ) (cells : List Cell) → AreAlike space words other
    → IsRow space words from to cells → to ≤ roots_start space → IsRow space other from to cells
row_alike space words other from to cells alike row below =
    let reads = λ (cell : Cell) (there : Contains cells cell).
    let is_cell = (rows_part_around space words from to cells cell row there).is_cell in
    let within = cell_within space words from to cells cell row there in
    reads_alike space words other cell alike is_cell (omega (arith, within.1))
    (cells_have_words space words cell is_cell).0 in
    rows_stay space words other from to cells row alike.long
    (All-weaker (Contains cells) (ReadsAlike space words other) reads cells (All-contains_itself cells))

-- a used row ends where it ended, kind by kind
ends_alike_of : (heap : Heap) (other : List ℕ) (extent : Extent) (end : ℕ) (region : Region)
    → AreAlike heap.space heap.words other → extent.start + extent.words ≤ roots_start heap.space
    → EndsUsed heap extent end region → EndsUsed (with_words heap other) extent end region
ends_alike_of heap other extent end (Page page) alike below ends = ends
ends_alike_of heap other extent end Eden alike below ends = ends
ends_alike_of heap other extent end (Segment half worker) alike below ends = (
  ends.0,
  elim (cases_lt end (extent.start + extent.words)) [
    | inl inside ↦ elim ends.1 [
      | inl at_end ↦ inl at_end
      | inr none ↦ inr (alike.cells end (omega arith) ∙ none)
    ]
    | inr at_end ↦ inl (omega (arith, ends.0))
  ],
)
ends_alike_of heap other extent end _ alike below ends = ends

-- a used row is one in the other words
pub used_row_alike : (heap : Heap) (other : List ℕ) (row : Row) → AreAlike heap.space heap.words other
    → heap.used ≤ heap.space.sizes.young → Contains (cell_extents heap.space) row.extent → IsUsedRow heap row
    → IsUsedRow (with_words heap other) row
used_row_alike heap other row alike few there used =
    let below = extent_below_roots heap.space row.extent there in
    record {
      ends = ends_alike_of heap other row.extent row.end row.extent.region alike below used.ends;
      stands = row_alike heap.space heap.words other row.extent.start row.end row.cells alike used.stands
          (omega (arith, ends_within heap row few there used, below));
    }

-- a cell of the heap is one in the other words
pub has_alike : {heap : Heap} {cell : Cell} {words : List ℕ} (other : List ℕ) → AreAlike heap.space heap.words other
    → heap.used ≤ heap.space.sizes.young → HasCell heap cell words → HasCell (with_words heap other) cell words
has_alike {heap} {cell} other alike few has = record {
  row = has.row;
  in_region = has.in_region;
  used = used_row_alike heap other has.row alike few has.in_region has.used;
  in_row = has.in_row;
  words_are = alike.parts cell.at (cell.at + cell.size) (cell_below_roots few has) ∙ has.words_are;
}

-- the rows of the heap are rows in the other words
pub rows_alike : {heap : Heap} (other : List ℕ) → AreAlike heap.space heap.words other → HasRows heap
    → HasRows (with_words heap other)
rows_alike {heap} other alike rows =
    let few = used_few rows in
    let used = λ (row : Row) (there : Contains rows.rows row).
    let is = row_is row rows.are there in
    used_row_alike heap other row alike few is.among is.used in
    record {
      rows = rows.rows;
      are = record {
        everywhere = rows.are.everywhere;
        each = All-weaker (Contains rows.rows) (IsUsedRow (with_words heap other)) used rows.rows
            (All-contains_itself rows.rows);
      };
      counted = rows.counted;
      few = rows.few;
    }

-- the sizes of the heap are those of the other words
pub sizes_alike : {heap : Heap} (other : List ℕ) → AreAlike heap.space heap.words other → HasSizes heap
    → HasSizes (with_words heap other)
sizes_alike other alike sized = record {
  words = alike.long ∙ sized.words;
  shapes = sized.shapes;
  layouts = λ shape below. alike.layouts shape ∙ sized.layouts shape below;
}
