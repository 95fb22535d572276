-- What the mutator owes while it shades the targets of a cell that it made black.
use Rattle.std.specs.Prelude.{◌≡◌, ℕ, ◌+◌, ◌≤◌, List, take, Option, Some, All, Contains, slice_index}
use Rattle.tagged_word.specs.declared.reading.Reading.{Reading}
use Rattle.page_space.specs.Extents.{Space, eden_start}
use Rattle.cell_layout.specs.declared.cell.Cell.{Cell}
use Rattle.cell_layout.specs.Cells.{layouts_in, reading_of}
use Rattle.mark_world.specs.Cycles.{Cycle}
use Rattle.mark_world.specs.Pages.{OfTarget, cell_at, slots_of, target}
use Rattle.heap_table.specs.Overviews.{cycle_in, overview}
use Rattle.heap_table.specs.Seats.{Seat}

-- the words of pages, among the own words of a heap
abbrev pub page_words_of : Space → List ℕ → List ℕ
page_words_of space table = take (eden_start space) table

-- the cell of a page at an address, by the own words of a heap
abbrev pub own_cell : Space → List ℕ → ℕ → Option Reading
own_cell space table at = cell_at (eden_start space) (page_words_of space table) (layouts_in space table) at

-- the word at an offset of a cell of a page
abbrev pub slot_word : Space → List ℕ → Cell → ℕ → ℕ
slot_word space table cell offset = slice_index (page_words_of space table) (cell.at + offset)

-- a cell is the target of a tagged slot of another, one that is not below an offset
pub record IsToCome (space : Space) (table : List ℕ) (cell : Cell) (from to : ℕ) : Type 0 where
  pub offset : ℕ
  pub reached : from ≤ offset
  pub slot : Contains (slots_of (reading_of cell)) offset
  pub refers : target (eden_start space) (slot_word space table cell offset) ≡ Some to

-- this holds of the target of each tagged slot of a cell that has one
abbrev pub EachTarget : Space → List ℕ → Cell → (ℕ → Type 0) → Type 0
EachTarget space table cell P =
    All (λ offset. OfTarget (eden_start space) (slot_word space table cell offset) P) (slots_of (reading_of cell))

-- No more is owed than targets of tagged slots of a cell from an offset on. Each target of its tagged slots is born,
-- and the mutator is sure of it.
pub record OwesSlots (space : Space) (table : List ℕ) (cycle : Cycle) (debts : List ℕ) (cell : Cell) (from : ℕ) : Type 0
  where
    pub reads : own_cell space table cell.at ≡ Some (reading_of cell)
    pub owed : All (IsToCome space table cell from) debts
    pub born : EachTarget space table cell (Contains cycle.born)
    pub sure : EachTarget space table cell (Contains cycle.sure)

-- what the mutator owes is so, by the main seat's view
abbrev pub Owes : Seat → Cell → ℕ → Type 0
Owes seat cell from = OwesSlots seat.space seat.table (cycle_in seat) (overview seat).view.owed cell from
