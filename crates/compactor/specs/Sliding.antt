-- How far a compaction has come: where the cells of pages come, which pages are packed, and how far a page is.
use Rattle.std.specs.Prelude.{◌≡◌, ◌≢◌, ℕ, ◌+◌, ◌-◌, ◌*◌, ◌<◌, ◌≤◌, ◌⊎◌, ◌↔◌, Bool, true, not, List, [], ◌∷◌}
use Rattle.std.specs.Prelude.{◌++◌, Contains, length, slice_get, set, nat_lt, if◌then◌else◌}
use Rattle.std.specs.List.{AllPairs}
use Rattle.tagged_word.specs.Cells.{is_free_kind}
use Rattle.page_space.specs.Sizes.{page_words}
use Rattle.page_space.specs.Extents.{eden_start}
use Rattle.page_space.specs.RegionLaws.{IsSpace}
use Rattle.cell_layout.specs.Cells.{IsRow}
use Rattle.free_runs.specs.FreeRuns.{row_of}
use Rattle.write_barrier.specs.Seats.{heap_words}
use Rattle.heap_model.specs.Types.{Cell, Run}
use Rattle.heap_model.specs.Heaps.{Heap, Row, HasCell}
use Rattle.heap_model.specs.RegionRows.{IsRowFrom}
use Rattle.heap_model.specs.Wholeness.{Whole}
use Rattle.heap_model.specs.Remembered.{RefersToYoung}
use Rattle.write_barrier.specs.MutatorState.{Mutator, MayStore, heap_of}
use Rattle.write_barrier.specs.FreeCells.{with_free_cell}
use Rattle.compactor.specs.Tables.{Table, place_in}
use Rattle.compactor.specs.Copying.{IsSlotAt, StandsCopied, KeepsRest}

-- the first address of a page
abbrev pub page_start : ℕ → ℕ
page_start page = page_words * page

-- whether the cell is kept by a compaction: it is not free
abbrev pub is_kept : Cell → Bool
is_kept cell = not (is_free_kind cell.layout.kind)

-- how many words the cell has after a compaction: none where it is free
abbrev pub kept_words : Cell → ℕ
kept_words cell = if is_kept cell then cell.size else 0

-- the address after kept cells that stand together from an address on
abbrev pub slid_end : ℕ → List Cell → ℕ
slid_end next [] = next
slid_end next (cell ∷ more) = slid_end (next + kept_words cell) more

-- Each of these cells that is kept has its place: together they stand from an address on, in their order.
abbrev pub ArePlaced : Table → ℕ → List Cell → Type 0
ArePlaced table next [] = Unit {0}
ArePlaced table next (cell ∷ more) =
    (is_kept cell ≡ true → place_in table cell.at ≡ next) × ArePlaced table (next + kept_words cell) more

-- the row of a page of the heap
abbrev pub IsPageRow : Heap → ℕ → Row → Type 0
IsPageRow heap page row = (page < heap.space.sizes.pages) × IsRowFrom heap (page_start page) row

-- the cells of pages before one have their places
pub record ArePlacedBefore (heap : Heap) (table : Table) (page : ℕ) : Type 0 where
  pub bound : table.bound ≡ eden_start heap.space
  pub placed : (before : ℕ) (row : Row) → before < page → IsPageRow heap before row
      → ArePlaced table (page_start before) row.cells

-- the words from an address up to another, if there are any, as a free run
abbrev pub run_between : ℕ → ℕ → List Run
run_between from to = if nat_lt from to then (record { at = from; words = to - from } ∷ []) else []

-- the address is that of a slot of a kept cell of these, at its place
pub record IsPlacedSlot (table : Table) (cells : List Cell) (at : ℕ) : Type 0 where
  pub cell : Cell
  pub among : Contains cells cell
  pub kept : is_kept cell ≡ true
  pub offset : ℕ
  pub visited : IsSlotAt cell offset
  pub stands : place_in table cell.at + offset ≡ at

-- each kept cell of these stands moved at its place
abbrev pub AreCopied : List ℕ → Table → List Cell → List ℕ → Type 0
AreCopied were table cells words =
    (cell : Cell) (offset : ℕ) → Contains cells cell → is_kept cell ≡ true → offset < cell.size
    → StandsCopied were table cell words (place_in table cell.at) offset

-- From an address up to another recorded are exactly the slots of these cells, at their places, that refer to young
-- cells.
abbrev pub AreJudged : Mutator → Table → List Cell → ℕ → ℕ → Type 0
AreJudged main table cells from to =
    (at : ℕ) → from ≤ at → at < to
    → Contains main.recorded.slots at
    ↔ (IsPlacedSlot table cells at × RefersToYoung main.recorded.bound (heap_words main.seat) at)

-- what is known of the mutator with which a compaction began
pub record IsBegun (first : Mutator) : Type 0 where
  pub limits : IsSpace first.seat.space
  pub quiet : MayStore first
  pub whole : Whole (heap_of first)
  pub bounded : first.recorded.bound ≡ eden_start first.seat.space
  pub rows : length first.free ≡ first.seat.space.sizes.pages

-- From an address up to the end of a page one free cell stands, which was put there, and it is the page's only free
-- run. No word of it is recorded.
pub record IsPageEnd (main : Mutator) (page next : ℕ) : Type 0 where
  pub put : List ℕ
  pub long : length put ≡ length (heap_words main.seat)
  pub stands : (at : ℕ) → next ≤ at → at < page_start (page + 1) → slice_get (heap_words main.seat) at
      ≡ slice_get (with_free_cell put next (page_start (page + 1) - next)) at
  pub runs : row_of main.free page ≡ run_between next (page_start (page + 1))
  pub none : (at : ℕ) → next ≤ at → at < page_start (page + 1) → Contains main.recorded.slots at → ⊥

-- A page is packed: its kept cells stand at their places, and what is left of it is free.
pub record IsPacked (first now : Mutator) (table : Table) (page : ℕ) (cells : List Cell) : Type 0 where
  pub copied : AreCopied (heap_words first.seat) table cells (heap_words now.seat)
  pub judged : AreJudged now table cells (page_start page) (slid_end (page_start page) cells)
  pub end : IsPageEnd now page (slid_end (page_start page) cells)

-- The pages before one are packed, and no word from it on has changed.
pub record Slid (first now : Mutator) (table : Table) (page : ℕ) : Type 0 where
  pub rest : KeepsRest first now
  pub rows : length now.free ≡ length first.free
  pub packed : (before : ℕ) (row : Row) → before < page → IsPageRow (heap_of first) before row
      → IsPacked first now table before row.cells
  pub ahead : (at : ℕ) → page_start page ≤ at
      → slice_get (heap_words now.seat) at ≡ slice_get (heap_words first.seat) at
  pub beyond : (at : ℕ) → first.recorded.bound ≤ at → Contains now.recorded.slots at
      → Contains first.recorded.slots at

-- A page is packed up to an address of its row: the cells before it stand at their places, of which the next begins at
-- another address.
pub record InPage (first now : Mutator) (table : Table) (page limit next at : ℕ) : Type 0 where
  pub begun : IsBegun first
  pub places : ArePlacedBefore (heap_of first) table first.seat.space.sizes.pages
  pub row : Row
  pub is : IsPageRow (heap_of first) page row
  pub ends : row.end ≡ limit
  pub rest : KeepsRest first now
  pub rows : length now.free ≡ length first.free
  pub packed : (before : ℕ) (row : Row) → before < page → IsPageRow (heap_of first) before row
      → IsPacked first now table before row.cells
  pub front : List Cell
  pub back : List Cell
  pub part : row.cells ≡ front ++ back
  pub passed : IsRow first.seat.space (heap_words first.seat) (page_start page) at front
  pub to_come : IsRow first.seat.space (heap_words first.seat) at row.end back
  pub comes : next ≡ slid_end (page_start page) front
  pub before : next ≤ at
  pub placed : ArePlaced table next back
  pub copied : AreCopied (heap_words first.seat) table front (heap_words now.seat)
  pub judged : AreJudged now table front (page_start page) next
  pub ahead : (a : ℕ) → at ≤ a → slice_get (heap_words now.seat) a ≡ slice_get (heap_words first.seat) a
  pub beyond : (a : ℕ) → first.recorded.bound ≤ a → Contains now.recorded.slots a
      → Contains first.recorded.slots a

-- the cell stood in the heap before an address, and its place is another one
pub record IsMovingBefore (heap : Heap) (table : Table) (to : ℕ) (cell : Cell) : Type 0 where
  pub words : List ℕ
  pub has : HasCell heap cell words
  pub kept : is_kept cell ≡ true
  pub before : cell.at < to
  pub elsewhere : place_in table cell.at ≢ cell.at

-- So many cells before an address have another place: these, in the order of their addresses.
pub record CountsBefore (heap : Heap) (table : Table) (to count : ℕ) : Type 0 where
  pub cells : List Cell
  pub counted : length cells ≡ count
  pub few : count ≤ to
  pub ascend : AllPairs (λ one other. one.at < other.at) cells
  pub each : (cell : Cell) → Contains cells cell ↔ IsMovingBefore heap table to cell

-- The cell is the next one of the row.
pub record MayPass (first now : Mutator) (table : Table) (page limit next : ℕ) (cell : Cell) : Type 0 where
  pub in_page : InPage first now table page limit next cell.at
  pub more : List Cell
  pub is_next : in_page.back ≡ cell ∷ more

-- A page may be packed: those before it are.
pub record MayPack (first now : Mutator) (table : Table) (page : ℕ) : Type 0 where
  pub begun : IsBegun first
  pub places : ArePlacedBefore (heap_of first) table first.seat.space.sizes.pages
  pub there : page < first.seat.space.sizes.pages
  pub slid : Slid first now table page

-- The words from an address up to the end of a page became one free cell, of which nothing is recorded, and the page's
-- only free run; where there are none, the page has no free run.
pub record EndsPage (old new : Mutator) (page next : ℕ) : Type 0 where
  pub rest : KeepsRest old new
  pub words : heap_words new.seat ≡ with_free_cell (heap_words old.seat) next (page_start (page + 1) - next)
  pub free : new.free ≡ set old.free page (run_between next (page_start (page + 1)))
  pub none : (at : ℕ) → next ≤ at → at < page_start (page + 1) → Contains new.recorded.slots at → ⊥
  pub others : (at : ℕ) → at < old.recorded.bound → (at < next) ⊎ (page_start (page + 1) ≤ at)
      → Contains new.recorded.slots at ↔ Contains old.recorded.slots at
  pub beyond : (at : ℕ) → old.recorded.bound ≤ at → Contains new.recorded.slots at → Contains old.recorded.slots at

-- The places of a page are put up to an address of its row: the next cell begins at another address.
pub record PlacesTo (heap : Heap) (old now : Table) (page limit next at : ℕ) : Type 0 where
  pub bound : now.bound ≡ old.bound
  pub row : Row
  pub is : IsPageRow heap page row
  pub ends : row.end ≡ limit
  pub front : List Cell
  pub back : List Cell
  pub part : row.cells ≡ front ++ back
  pub passed : IsRow heap.space heap.words (page_start page) at front
  pub to_come : IsRow heap.space heap.words at row.end back
  pub comes : next ≡ slid_end (page_start page) front
  pub before : next ≤ at
  pub placed : ArePlaced now (page_start page) front
  pub others : (a : ℕ) → a < page_start page → place_in now a ≡ place_in old a
