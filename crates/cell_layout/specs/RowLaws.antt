-- Laws of rows of cells: one from an address to another, how rows join and part, and where they stay.
use Rattle.std.specs.Prelude.{◌≡◌, ℕ, ◌+◌, ◌≤◌, ◌<◌, ◌⊎◌, List, ◌∷◌, ◌++◌, length, sum_by}
use Rattle.std.specs.Prelude.{All, Contains, slice_set}
use Rattle.tagged_word.specs.Cells.{scavenge_offsets}
use Rattle.page_space.specs.Extents.{Space}
use Rattle.cell_layout.specs.declared.cell.Cell.{Cell}
use Rattle.cell_layout.specs.Cells.{IsCell, IsRow}
use Rattle.cell_layout.specs.CellLaws.{ReadsAlike, IsNoLayoutWord}

-- the two parts of a row: from its first address to the one between them, and on from there
pub record PartsBetween (space : Space) (words : List ℕ) (from to : ℕ) (before behind : List Cell) : Type 0 where
  pub between : ℕ
  pub first : IsRow space words from between before
  pub rest : IsRow space words between to behind

-- the row has the cell: a row to it, the cell, and the row behind it
pub record PartsAround (space : Space) (words : List ℕ) (from to : ℕ) (cells : List Cell) (cell : Cell) : Type 0 where
  pub before : List Cell
  pub behind : List Cell
  pub joined : cells ≡ before ++ cell ∷ behind
  pub first : IsRow space words from cell.at before
  pub is_cell : IsCell space words cell
  pub rest : IsRow space words (cell.at + cell.size) to behind

-- two rows from one address to another are one
abbrev pub OneRow : Type 0
OneRow =
    (space : Space) (words : List ℕ) (from to : ℕ) (cells others : List Cell)
    → IsRow space words from to cells → IsRow space words from to others → cells ≡ others

-- the words of a row's cells fill it: it ends so many words behind its first address
abbrev pub RowsAreFull : Type 0
RowsAreFull =
    (space : Space) (words : List ℕ) (from to : ℕ) (cells : List Cell)
    → IsRow space words from to cells → from + sum_by (λ cell. cell.size) cells ≡ to

-- a row and one that begins where it ends are one row
abbrev pub RowsJoin : Type 0
RowsJoin =
    (space : Space) (words : List ℕ) (from between to : ℕ) (before behind : List Cell)
    → IsRow space words from between before → IsRow space words between to behind
    → IsRow space words from to (before ++ behind)

-- a row parts between any two of its cells
abbrev pub RowsPart : Type 0
RowsPart =
    (space : Space) (words : List ℕ) (from to : ℕ) (before behind : List Cell)
    → IsRow space words from to (before ++ behind) → PartsBetween space words from to before behind

-- a row parts right before and right behind each of its cells
abbrev pub RowsPartAround : Type 0
RowsPartAround =
    (space : Space) (words : List ℕ) (from to : ℕ) (cells : List Cell) (cell : Cell)
    → IsRow space words from to cells → Contains cells cell → PartsAround space words from to cells cell

-- a row stands in other words too, as many, which say the same where its cells are read
abbrev pub RowsStay : Type 0
RowsStay =
    (space : Space) (words other : List ℕ) (from to : ℕ) (cells : List Cell)
    → IsRow space words from to cells → length other ≡ length words → All (ReadsAlike space words other) cells
    → IsRow space other from to cells

-- Where other words, as many, have a row of their own in place of a stretch of a row, and say the same where the cells
-- before and behind it are read, it is one row with these.
abbrev pub StretchesChange : Type 0
StretchesChange =
    (space : Space) (words other : List ℕ) (from start end to : ℕ) (before behind changed : List Cell)
    → IsRow space words from start before → IsRow space words end to behind → length other ≡ length words
    → All (ReadsAlike space words other) before → All (ReadsAlike space words other) behind
    → IsRow space other start end changed → IsRow space other from to (before ++ changed ++ behind)

-- a row stands where a word is put behind its end or before its start, if that is no layout word
abbrev pub RowsStayAtPuts : Type 0
RowsStayAtPuts =
    (space : Space) (words : List ℕ) (from to a word : ℕ) (cells : List Cell)
    → IsRow space words from to cells → (a < from) ⊎ (to ≤ a) → IsNoLayoutWord space a
    → IsRow space (slice_set words a word) from to cells

-- a row stands where a word is put in a slot of one of its cells
abbrev pub SlotsChange : Type 0
SlotsChange =
    (space : Space) (words : List ℕ) (from to offset word : ℕ) (cells : List Cell) (cell : Cell)
    → IsRow space words from to cells → Contains cells cell
    → Contains (scavenge_offsets cell.layout cell.length) offset
    → IsRow space (slice_set words (cell.at + offset) word) from to cells
