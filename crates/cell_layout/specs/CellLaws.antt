-- Laws of single cells: there is one at an address, it has some words, its slots lie in it, and it stays where what it
-- is read by stays.
use Rattle.std.specs.Prelude.{◌≡◌, ◌≢◌, ℕ, ◌+◌, ◌≤◌, ◌<◌, List, length, Contains, IsTrue, slice_get}
use Rattle.std.specs.Prelude.{slice_set}
use Rattle.tagged_word.specs.Shapes.{shapes_most}
use Rattle.tagged_word.specs.Cells.{cell_words_most, has_length, tagged_offsets, scavenge_offsets}
use Rattle.page_space.specs.Extents.{Space, layouts_start}
use Rattle.cell_layout.specs.declared.cell.Cell.{Cell}
use Rattle.cell_layout.specs.Cells.{IsCell, layouts_in}

-- Other words say the same where the cell is read: its header, its length where it has one, and the layout word of its
-- shape.
pub record ReadsAlike (space : Space) (words other : List ℕ) (cell : Cell) : Type 0 where
  pub first : slice_get other cell.at ≡ slice_get words cell.at
  pub second : IsTrue (has_length cell.layout.kind) → slice_get other (cell.at + 1) ≡ slice_get words (cell.at + 1)
  pub of_shape : slice_get (layouts_in space other) cell.header.shape
      ≡ slice_get (layouts_in space words) cell.header.shape

-- The offset is one of the cell's, and none that the cell is read by: neither its header's, nor that of its length.
pub record IsOfSlot (cell : Cell) (offset : ℕ) : Type 0 where
  pub behind_header : 1 ≤ offset
  pub behind_length : IsTrue (has_length cell.layout.kind) → 2 ≤ offset
  pub within : offset < cell.size

-- no layout word stands at the address
abbrev pub IsNoLayoutWord : Space → ℕ → Type 0
IsNoLayoutWord space a = (shape : ℕ) → shape < shapes_most → a ≢ layouts_start space + shape

-- two cells at one address are one
abbrev pub OneCell : Type 0
OneCell =
    (space : Space) (words : List ℕ) (cell other : Cell)
    → IsCell space words cell → IsCell space words other → cell.at ≡ other.at → cell ≡ other

-- a cell has at least one word and at most as many as a page
abbrev pub CellsHaveWords : Type 0
CellsHaveWords =
    (space : Space) (words : List ℕ) (cell : Cell)
    → IsCell space words cell → (1 ≤ cell.size) × (cell.size ≤ cell_words_most)

-- each slot that a scavenge visits lies in its cell
abbrev pub SlotsLieWithin : Type 0
SlotsLieWithin =
    (space : Space) (words : List ℕ) (cell : Cell) (offset : ℕ)
    → IsCell space words cell → Contains (scavenge_offsets cell.layout cell.length) offset → IsOfSlot cell offset

-- a scavenge visits each slot that marking visits
abbrev pub ScavengesVisitTagged : Type 0
ScavengesVisitTagged =
    (cell : Cell) (offset : ℕ)
    → Contains (tagged_offsets cell.layout cell.length) offset
    → Contains (scavenge_offsets cell.layout cell.length) offset

-- a cell stands in other words too, as many, which say the same where it is read
abbrev pub CellsStay : Type 0
CellsStay =
    (space : Space) (words other : List ℕ) (cell : Cell)
    → IsCell space words cell → length other ≡ length words → ReadsAlike space words other cell
    → IsCell space other cell

-- words say the same of a cell where one is put that it isn't read by
abbrev pub PutsReadAlike : Type 0
PutsReadAlike =
    (space : Space) (words : List ℕ) (a word : ℕ) (cell : Cell)
    → a ≢ cell.at → (IsTrue (has_length cell.layout.kind) → a ≢ cell.at + 1) → IsNoLayoutWord space a
    → ReadsAlike space words (slice_set words a word) cell

-- no word of a cell is a layout word
abbrev pub CellsAreApart : Type 0
CellsAreApart =
    (space : Space) (words : List ℕ) (cell : Cell) (offset : ℕ)
    → IsCell space words cell → offset < cell.size → IsNoLayoutWord space (cell.at + offset)
