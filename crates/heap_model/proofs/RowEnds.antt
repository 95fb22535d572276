-- Where the used row of a region ends, and that a region has one.
use Rattle.std.proofs.Common.{◌≡◌, ℕ, ◌+◌, ◌≤◌, ◌⊎◌, inl, inr, List, [], ◌∷◌, Some, slice_get}
use Rattle.std.proofs.Common.{sym, ◌∙◌, ap, subst, arith}
use Rattle.std.proofs.lemmas.Option.{same_Some}
use Rattle.tagged_word.specs.Headers.{header_bits}
use Rattle.heap_model.specs.Types.{Region, Cell}
use Rattle.page_space.specs.declared.region.Region.TheVariants.{Page, Eden, Segment}
use Rattle.page_space.specs.Extents.{Space, Extent}
use Rattle.cell_layout.specs.Cells.{IsCell, IsRow}
use Rattle.cell_layout.proofs.OneCell.{one_cell}
use Rattle.cell_layout.proofs.Rows.{BeginsWith, row_begins, row_of_none, first_ends, one_row}
use Rattle.heap_model.specs.Heaps.{Heap, Row, EndsUsed, IsUsedRow}

-- the first word of a cell is no 0
pub first_word_counts : (space : Space) (words : List ℕ) (cell : Cell) → IsCell space words cell
    → slice_get words cell.at ≡ Some 0 → ⊥
first_word_counts space words cell is_cell none =
    let same : header_bits cell.header ≡ 0 = same_Some _ _ (sym is_cell.reads.first ∙ none) in
    omega (arith, same)

-- a row may stop at its limit, or where a word is 0
abbrev pub Stops : List ℕ → ℕ → ℕ → Type 0
Stops words limit end = (end ≡ limit) ⊎ (slice_get words end ≡ Some 0)

-- where a cell stands below the limit, no row stops
goes_on : (space : Space) (words : List ℕ) (from to limit : ℕ) (cell : Cell) (cells : List Cell)
    → BeginsWith space words from to cell cells → to ≤ limit → Stops words limit from → ⊥
goes_on space words from to limit cell cells begins within (inl at_limit) =
    omega (arith, (first_ends space words from to cell cells begins).0)
goes_on space words from to limit cell cells begins within (inr none) =
    first_word_counts space words cell begins.is_cell (ap (slice_get words) begins.starts ∙ none)

-- two rows from one address on that stop below a limit end at one address
pub one_end : (space : Space) (words : List ℕ) (from to other limit : ℕ) (cells others : List Cell)
    → IsRow space words from to cells → IsRow space words from other others → to ≤ limit → other ≤ limit
    → Stops words limit to → Stops words limit other → to ≡ other
one_end space words from to other limit [] [] row row_other within within_other stops stops_other =
    sym (row_of_none row) ∙ row_of_none row_other
one_end space words from to other limit [] (first ∷ others) row row_other within within_other stops stops_other =
    let from_stops : Stops words limit from = subst (Stops words limit) (sym (row_of_none row)) stops in
    absurd (goes_on space words from other limit first others (row_begins row_other) within_other from_stops)
one_end space words from to other limit (cell ∷ cells) [] row row_other within within_other stops stops_other =
    let from_stops : Stops words limit from = subst (Stops words limit) (sym (row_of_none row_other)) stops_other in
    absurd (goes_on space words from to limit cell cells (row_begins row) within from_stops)
one_end space words from to other limit (cell ∷ cells) (first ∷ others) row row_other within
    within_other stops stops_other =
    let begins = row_begins row in
    let begins_other = row_begins row_other in
    let same : cell ≡ first =
    one_cell space words cell first begins.is_cell begins_other.is_cell (begins.starts ∙ sym begins_other.starts) in
    let P : Cell → Type 0 = λ one. IsRow space words (one.at + one.size) other others in
    one_end space words (cell.at + cell.size) to other limit cells others begins.rest
    (subst P (sym same) begins_other.rest)
    within within_other stops stops_other

-- the used row of a region has one end
one_used_end : (heap : Heap) (extent : Extent) (end other : ℕ) (cells others : List Cell) (region : Region)
    → EndsUsed heap extent end region → EndsUsed heap extent other region
    → IsRow heap.space heap.words extent.start end cells → IsRow heap.space heap.words extent.start other others
    → end ≡ other
one_used_end heap extent end other cells others (Page page) ends ends_other row row_other = ends ∙ sym ends_other
one_used_end heap extent end other cells others Eden ends ends_other row row_other = ends ∙ sym ends_other
one_used_end heap extent end other cells others (Segment half worker) ends ends_other row row_other =
    one_end heap.space heap.words extent.start end other (extent.start + extent.words) cells others row row_other
    ends.0 ends_other.0 ends.1 ends_other.1
one_used_end heap extent end other cells others _ ends ends_other row row_other = absurd ends

-- the two rows have the same end and the same cells
pub record AreOneRow (row other : Row) : Type 0 where
  pub end : row.end ≡ other.end
  pub cells : row.cells ≡ other.cells

-- two used rows of one region are one
pub one_used_row : (heap : Heap) (row other : Row) → IsUsedRow heap row → IsUsedRow heap other
    → row.extent ≡ other.extent → AreOneRow row other
one_used_row heap row other used used_other same =
    let Ends : Extent → Type 0 = λ extent. EndsUsed heap extent other.end extent.region in
    let Stands : Extent → Type 0 = λ extent. IsRow heap.space heap.words extent.start other.end other.cells in
    let ends : Ends row.extent = subst Ends (sym same) used_other.ends in
    let stands : Stands row.extent = subst Stands (sym same) used_other.stands in
    let end : row.end ≡ other.end =
    one_used_end heap row.extent row.end other.end row.cells other.cells row.extent.region used.ends ends
    used.stands stands in
    let Row_to : ℕ → Type 0 = λ to. IsRow heap.space heap.words row.extent.start to other.cells in
    record {
      end = end;
      cells = one_row heap.space heap.words row.extent.start row.end row.cells other.cells used.stands
          (subst Row_to (sym end) stands);
    }
