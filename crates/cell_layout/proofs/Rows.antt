-- Rows of cells: where they begin and end, how they join and part, and where they stay.
use Rattle.std.proofs.Common.{◌≡◌, ℕ, ◌+◌, ◌≤◌, ◌<◌, inl, inr, List, [], ◌∷◌, ◌++◌, refl, sym}
use Rattle.std.proofs.Common.{◌∙◌, ap, subst, arith, length-append}
use Rattle.std.specs.List.{Contains}
use Rattle.std.proofs.lemmas.List.Sums.{sum_by-cons}
use Rattle.std.proofs.lemmas.List.Elements.{All-head, All-tail}
use Rattle.tagged_word.proofs.Members.{in_cases}
use Rattle.page_space.specs.Extents.{Space}
use Rattle.cell_layout.specs.declared.cell.Cell.{Cell}
use Rattle.cell_layout.specs.Cells.{IsCell, IsRow, none, next, IsRowOfSome}
use Rattle.cell_layout.specs.CellLaws.{ReadsAlike}
use Rattle.cell_layout.specs.RowLaws.{PartsAround, OneRow, RowsAreFull, RowsJoin, RowsPart, RowsPartAround, RowsStay}
use Rattle.cell_layout.specs.RowLaws.{StretchesChange}
use Rattle.cell_layout.proofs.OneCell.{one_cell, cells_have_words, cells_stay}

-- what a row with a first cell says of it
pub record BeginsWith (space : Space) (words : List ℕ) (from to : ℕ) (cell : Cell) (cells : List Cell) : Type 0 where
  pub starts : cell.at ≡ from
  pub is_cell : IsCell space words cell
  pub rest : IsRow space words (cell.at + cell.size) to cells

-- a row with no cell ends where it begins
pub row_of_none : {space : Space} {words : List ℕ} {from to : ℕ} → IsRow space words from to [] → from ≡ to
row_of_none (none at) = refl

-- a row with a first cell begins with it
pub row_begins : {space : Space} {words : List ℕ} {from to : ℕ} {cell : Cell} {cells : List Cell}
    → IsRow space words from to (cell ∷ cells) → BeginsWith space words from to cell cells
row_begins (next cell end cells is_cell rest) = record { starts = refl; is_cell = is_cell; rest = rest }

-- and a row that begins with a cell has it as its first
pub row_from : {space : Space} {words : List ℕ} {from to : ℕ} {cell : Cell} {cells : List Cell}
    → BeginsWith space words from to cell cells → IsRow space words from to (cell ∷ cells)
row_from {space} {words} {from} {to} {cell} {cells} begins =
    let P : ℕ → Type 0 = λ at. IsRow space words at to (cell ∷ cells) in
    subst P begins.starts (next cell to cells begins.is_cell begins.rest)

-- where no word lies between two addresses, there is a row of no cell
row_from_same : (space : Space) (words : List ℕ) (from to : ℕ) → from ≡ to → IsRow space words from to []
row_from_same space words from to same = subst (λ (end : ℕ). IsRow space words from end []) same (none from)

-- a row and one that begins where it ends are one row
pub rows_join : RowsJoin
rows_join space words from between to [] behind first rest =
    subst (λ (at : ℕ). IsRow space words at to behind) (sym (row_of_none first)) rest
rows_join space words from between to (cell ∷ before) behind first rest =
    let begins = row_begins first in
    row_from record {
      starts = begins.starts;
      is_cell = begins.is_cell;
      rest = rows_join space words (cell.at + cell.size) between to before behind begins.rest rest;
    }

-- a row goes on with the cell that stands where it ends
pub row_push : (space : Space) (words : List ℕ) (from : ℕ) (cells : List Cell) (cell : Cell)
    → IsRow space words from cell.at cells → IsCell space words cell
    → IsRow space words from (cell.at + cell.size) (cells ++ cell ∷ [])
row_push space words from cells cell row is_cell =
    let end : ℕ = cell.at + cell.size in
    rows_join space words from cell.at end cells (cell ∷ []) row (next cell end [] is_cell (none end))

-- a walk that has not begun has come past a row of no cells
pub row_of_no_cells : (space : Space) (words : List ℕ) (from : ℕ) → IsRowOfSome space words from from 0
row_of_no_cells space words from = record { cells = []; row = none from; as_many = refl }

-- a walk that comes past one cell more has come past a row of one more
pub row_of_one_more : (space : Space) (words : List ℕ) (from at many : ℕ) (cell : Cell)
    → IsRowOfSome space words from at many → cell.at ≡ at → IsCell space words cell
    → IsRowOfSome space words from (at + cell.size) (many + 1)
row_of_one_more space words from at many cell passed here is_cell =
    let row = subst (λ (end : ℕ). IsRow space words from end passed.cells) (sym here) passed.row in
    record {
      cells = passed.cells ++ cell ∷ [];
      row = subst (λ (one : ℕ). IsRow space words from (one + cell.size) (passed.cells ++ cell ∷ [])) here
          (row_push space words from passed.cells cell row is_cell);
      as_many = omega (arith, length-append passed.cells (cell ∷ []), passed.as_many);
    }

-- the words of a row's cells fill it
pub rows_are_full : RowsAreFull
rows_are_full space words from to [] row = omega (arith, row_of_none row)
rows_are_full space words from to (cell ∷ cells) row =
    let begins = row_begins row in
    omega (
      arith,
      begins.starts,
      sum_by-cons (λ (one : Cell). one.size) cell cells,
      rows_are_full space words (cell.at + cell.size) to cells begins.rest,
    )

-- a row ends where it begins, or behind that
pub row_ascends : (space : Space) (words : List ℕ) (from to : ℕ) (cells : List Cell)
    → IsRow space words from to cells → from ≤ to
row_ascends space words from to cells row = omega (arith, rows_are_full space words from to cells row)

-- the first cell of a row ends where the row does, or before
pub first_ends : (space : Space) (words : List ℕ) (from to : ℕ) (cell : Cell) (cells : List Cell)
    → BeginsWith space words from to cell cells → (from < to) × (from + cell.size ≤ to)
first_ends space words from to cell cells begins =
    let some : 1 ≤ cell.size = (cells_have_words space words cell begins.is_cell).0 in
    let ends : cell.at + cell.size ≤ to = row_ascends space words (cell.at + cell.size) to cells begins.rest in
    let starts : cell.at ≡ from = begins.starts in
    (omega arith, omega arith)

-- two rows from one address to another are one
pub one_row : OneRow
one_row space words from to [] [] row other = refl
one_row space words from to [] (cell ∷ cells) row other =
    let ends = first_ends space words from to cell cells (row_begins other) in
    absurd (omega (arith, ends.0, row_of_none row))
one_row space words from to (cell ∷ cells) [] row other =
    let ends = first_ends space words from to cell cells (row_begins row) in
    absurd (omega (arith, ends.0, row_of_none other))
one_row space words from to (cell ∷ cells) (first ∷ others) row other =
    let begins = row_begins row in
    let begins_other = row_begins other in
    let same : cell ≡ first =
    one_cell space words cell first begins.is_cell begins_other.is_cell (begins.starts ∙ sym begins_other.starts) in
    let P : Cell → Type 0 = λ one. IsRow space words (one.at + one.size) to others in
    let rest = one_row space words (cell.at + cell.size) to cells others begins.rest
    (subst P (sym same) begins_other.rest) in
    ap (λ one. one ∷ cells) same ∙ ap (λ more. first ∷ more) rest

-- a row parts between any two of its cells
pub rows_part : RowsPart
rows_part space words from to [] behind row = record { between = from; first = none from; rest = row }
rows_part space words from to (cell ∷ before) behind row =
    let begins = row_begins row in
    let parts = rows_part space words (cell.at + cell.size) to before behind begins.rest in
    record {
      between = parts.between;
      first = row_from record { starts = begins.starts; is_cell = begins.is_cell; rest = parts.first };
      rest = parts.rest;
    }

-- the first cell of a row parts it
around_first : (space : Space) (words : List ℕ) (from to : ℕ) (first cell : Cell) (cells : List Cell)
    → BeginsWith space words from to first cells → first ≡ cell → PartsAround space words from to (first ∷ cells) cell
around_first space words from to first cell cells begins same =
    let P : Cell → Type 0 = λ one. PartsAround space words from to (first ∷ cells) one in
    subst P same record {
      before = [];
      behind = cells;
      joined = refl;
      first = row_from_same space words from first.at (sym begins.starts);
      is_cell = begins.is_cell;
      rest = begins.rest;
    }

-- a cell that parts the rest of a row parts the row
around_later : (space : Space) (words : List ℕ) (from to : ℕ) (first cell : Cell) (cells : List Cell)
    → BeginsWith space words from to first cells → PartsAround space words (first.at + first.size) to cells cell
    → PartsAround space words from to (first ∷ cells) cell
around_later space words from to first cell cells begins parts = record {
  before = first ∷ parts.before;
  behind = parts.behind;
  joined = ap (λ more. first ∷ more) parts.joined;
  first = row_from record { starts = begins.starts; is_cell = begins.is_cell; rest = parts.first };
  is_cell = parts.is_cell;
  rest = parts.rest;
}

-- a row parts right before and right behind each of its cells
pub rows_part_around : RowsPartAround
rows_part_around space words from to [] cell row (k, within, is) = absurd (omega (arith, within))
rows_part_around space words from to (first ∷ cells) cell row has =
    let begins = row_begins row in
    let later = rows_part_around space words (first.at + first.size) to cells cell begins.rest in
    elim (in_cases first cells cell has) [
      | inl same ↦ around_first space words from to first cell cells begins same
      | inr more ↦ around_later space words from to first cell cells begins (later more)
    ]

-- a cell of a row stands in it
pub cell_within : (space : Space) (words : List ℕ) (from to : ℕ) (cells : List Cell) (cell : Cell)
    → IsRow space words from to cells → Contains cells cell → (from ≤ cell.at) × (cell.at + cell.size ≤ to)
cell_within space words from to cells cell row has =
    let parts = rows_part_around space words from to cells cell row has in (
      row_ascends space words from cell.at parts.before parts.first,
      row_ascends space words (cell.at + cell.size) to parts.behind parts.rest,
    )

-- a row stands in other words too, as many, which say the same where its cells are read
pub rows_stay : RowsStay
rows_stay space words other from to [] row same alike =
    row_from_same space other from to (row_of_none row)
rows_stay space words other from to (cell ∷ cells) row same alike =
    let begins = row_begins row in
    let P : Cell → Type 0 = ReadsAlike space words other in
    row_from record {
      starts = begins.starts;
      is_cell = cells_stay space words other cell begins.is_cell same (All-head P cell cells alike);
      rest = rows_stay space words other (cell.at + cell.size) to cells begins.rest same (All-tail P cell cells alike);
    }

-- a stretch of a row may change to another row
pub stretches_change : StretchesChange
stretches_change space words other from start end to before behind changed first rest same
    before_alike behind_alike row =
    rows_join space other from end to (before ++ changed) behind
    (rows_join space other from start end before changed
    (rows_stay space words other from start before first same before_alike) row)
    (rows_stay space words other end to behind rest same behind_alike)
