-- Walks along rows of cells that set flags, and where they break off.
use Rattle.std.proofs.Common.{◌≡◌, ℕ, ◌+◌, ◌≤◌, ◌<◌, inl, inr, Bool, true, List, [], ◌∷◌, ◌++◌, length, slice_get, set}
use Rattle.std.proofs.Common.{sym, ◌∙◌, ap, subst, arith}
use Rattle.std.proofs.lemmas.Bool.{cases_lt}
use Rattle.heap_model.specs.Types.{Cell}
use Rattle.cell_layout.specs.Cells.{IsCell, IsRow, HasNoCell, none}
use Rattle.cell_layout.proofs.OneCell.{one_cell, cells_have_words}
use Rattle.cell_layout.proofs.Rows.{row_begins, row_of_none, row_ascends, row_push, first_ends}
use Rattle.heap_model.specs.Heaps.{Heap}
use Rattle.heap_model.proofs.RowEnds.{first_word_counts}
use Rattle.heap_check.specs.declared.region_rows.Bound.{Bound}
use Rattle.heap_check.specs.Walks.{Stops, WalkContinues, IsWalk}
use Rattle.heap_check.specs.Marks.{MarksCells, MarksWalk, BreaksWalk}
use Rattle.heap_check.specs.Rows.{IsBroken}
use Rattle.heap_check.proofs.MarkedCells.{marks_none, marks_push}

-- where no cell stands and the row may not end, it breaks off
pub broken_there : (heap : Heap) (bound : Bound) (at : ℕ) → at ≤ bound.limit → (Stops heap bound at → ⊥)
    → HasNoCell heap.space heap.words at → IsBroken heap bound at
broken_there heap bound at within no_end empty = record {
  before = elim (cases_lt at bound.limit) [
    | inl below ↦ below
    | inr past ↦ absurd (no_end (inl (omega arith)))
  ];
  no_end = no_end;
  no_cell = λ cell goes. empty cell goes.starts goes.is_cell;
}

-- so it does where the cell passes the limit
pub broken_past : (heap : Heap) (bound : Bound) (at : ℕ) (cell : Cell) → at ≤ bound.limit → (Stops heap bound at → ⊥)
    → cell.at ≡ at → IsCell heap.space heap.words cell → bound.limit < at + cell.size → IsBroken heap bound at
broken_past heap bound at cell within no_end here is_cell past = record {
  before = elim (cases_lt at bound.limit) [
    | inl below ↦ below
    | inr behind ↦ absurd (no_end (inl (omega arith)))
  ];
  no_end = no_end;
  no_cell = λ other goes.
      let same = one_cell heap.space heap.words other cell goes.is_cell is_cell (goes.starts ∙ sym here) in
      omega (arith, goes.within, past, ap (λ (one : Cell). one.size) same);
}

-- cells stand in a row up to an address, and their flags were set
pub record MarkedRow (heap : Heap) (from at : ℕ) (old new : List Bool) : Type 0 where
  pub cells : List Cell
  pub row : IsRow heap.space heap.words from at cells
  pub marks : MarksCells old new cells

-- no cell was passed
pub row_none : (heap : Heap) (from : ℕ) (flags : List Bool) → MarkedRow heap from from flags flags
row_none heap from flags = record { cells = []; row = none from; marks = marks_none flags }

-- one cell more was passed
pub row_more : (heap : Heap) (bound : Bound) (from at : ℕ) (old new : List Bool) (cell : Cell)
    → MarkedRow heap from at old new → WalkContinues heap bound at cell → at < length new
    → MarkedRow heap from (at + cell.size) old (set new at true)
row_more heap bound from at old new cell passed goes within =
    let here = goes.starts in
    let row = subst (λ (end : ℕ). IsRow heap.space heap.words from end passed.cells) (sym here) passed.row in
    let cells : List Cell = passed.cells ++ cell ∷ [] in
    let more = row_push heap.space heap.words from passed.cells cell row goes.is_cell in
    let marks = marks_push old new passed.cells cell passed.marks (omega (arith, here, within)) in
    record {
      cells = cells;
      row = subst (λ (one : ℕ). IsRow heap.space heap.words from (one + cell.size) cells) here more;
      marks = subst (λ (one : ℕ). MarksCells old (set new one true) cells) here marks;
    }

-- where the row may end, the walk ends
pub walk_ends : (heap : Heap) (bound : Bound) (from at : ℕ) (old new : List Bool) → MarkedRow heap from at old new
    → at ≤ bound.limit → Stops heap bound at → MarksWalk heap bound from at old new
walk_ends heap bound from at old new passed within stops = record {
  cells = passed.cells;
  walk = record { row = passed.row; within = within; stops = stops };
  marks = passed.marks;
}

-- where it breaks off, the walk does
pub walk_breaks : (heap : Heap) (bound : Bound) (from at : ℕ) (old new : List Bool) → MarkedRow heap from at old new
    → IsBroken heap bound at → BreaksWalk heap bound from at
walk_breaks heap bound from at old new passed broken = record {
  cells = passed.cells;
  row = passed.row;
  before = broken.before;
  no_end = broken.no_end;
  no_cell = broken.no_cell;
}

-- Of two rows from one address the longer one goes on where the other one ends.
pub row_goes_on : (heap : Heap) (bound : Bound) (from at other : ℕ) (cells others : List Cell)
    → IsRow heap.space heap.words from at cells → IsRow heap.space heap.words from other others → other < at
    → at ≤ bound.limit → (cell : Cell) × WalkContinues heap bound other cell
row_goes_on heap bound from at other [] others row row_other before within =
    absurd (omega (arith, before, row_of_none row, row_ascends heap.space heap.words from other others row_other))
row_goes_on heap bound from at other (cell ∷ cells) [] row row_other before within =
    let begins = row_begins row in
    let ends = first_ends heap.space heap.words from at cell cells begins in
    let here = row_of_none row_other in (
      cell,
      record {
        starts = begins.starts ∙ here;
        is_cell = begins.is_cell;
        some = (cells_have_words heap.space heap.words cell begins.is_cell).0;
        within = omega (arith, ends.1, here, within);
      },
    )
row_goes_on heap bound from at other (cell ∷ cells) (first ∷ others) row row_other before within =
    let begins = row_begins row in
    let begins_other = row_begins row_other in
    let same : first ≡ cell = one_cell heap.space heap.words first cell begins_other.is_cell begins.is_cell
    (begins_other.starts ∙ sym begins.starts) in
    let rest = subst (λ (one : Cell). IsRow heap.space heap.words (one.at + one.size) other others) same
    begins_other.rest in
    row_goes_on heap bound (cell.at + cell.size) at other cells others begins.rest rest before within

-- a walk breaks off in one place
pub breaks_once : (heap : Heap) (bound : Bound) (from at other : ℕ) → BreaksWalk heap bound from at
    → BreaksWalk heap bound from other → at ≤ other
breaks_once heap bound from at other breaks breaks_too = elim (cases_lt other at) [
  | inl before ↦
      let goes = row_goes_on heap bound from at other breaks.cells breaks_too.cells breaks.row breaks_too.row before
      (omega (arith, breaks.before)) in
      absurd (breaks_too.no_cell goes.0 goes.1)
  | inr behind ↦ behind
]

-- no row may end where a cell stands that ends within the bound
goes_or_stops : (heap : Heap) (bound : Bound) (at : ℕ) (cell : Cell) → WalkContinues heap bound at cell
    → Stops heap bound at → ⊥
goes_or_stops heap bound at cell goes (inl at_limit) = omega (arith, at_limit, goes.some, goes.within)
goes_or_stops heap bound at cell goes (inr blank) =
    first_word_counts heap.space heap.words cell goes.is_cell (ap (slice_get heap.words) goes.starts ∙ blank.1)

-- a walk that breaks off does not end
pub breaks_or_ends : (heap : Heap) (bound : Bound) (from at end : ℕ) (cells : List Cell)
    → BreaksWalk heap bound from at → IsWalk heap bound from end cells → ⊥
breaks_or_ends heap bound from at end cells breaks walk = elim (cases_lt end at) [
  | inl before ↦
      let goes = row_goes_on heap bound from at end breaks.cells cells breaks.row walk.row before
      (omega (arith, breaks.before)) in
      goes_or_stops heap bound end goes.0 goes.1 walk.stops
  | inr behind ↦ elim (cases_lt at end) [
    | inl after ↦
        let goes = row_goes_on heap bound from end at cells breaks.cells walk.row breaks.row after walk.within in
        breaks.no_cell goes.0 goes.1
    | inr there ↦
        let same : end ≡ at = omega arith in
        breaks.no_end (subst (Stops heap bound) same walk.stops)
  ]
]
