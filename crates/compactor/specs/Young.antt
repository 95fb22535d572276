-- How far the pass along the young generation has come: cells stay in place, and their slots are moved.
use Rattle.std.specs.Prelude.{◌≡◌, ◌≢◌, ℕ, ◌+◌, ◌<◌, ◌≤◌, ◌↔◌, true, false, List, ◌++◌, Contains, Some, slice_get}
use Rattle.page_space.specs.Extents.{eden_start}
use Rattle.handle_roots.specs.Roots.{root_at}
use Rattle.cell_layout.specs.Cells.{IsRow}
use Rattle.write_barrier.specs.Seats.{heap_words}
use Rattle.heap_model.specs.Types.{Cell}
use Rattle.heap_model.specs.Heaps.{Heap, Row, HasCell}
use Rattle.heap_model.specs.RegionRows.{StandsBetween, IsRowFrom}
use Rattle.heap_walk.specs.Limits.{EndsBy}
use Rattle.write_barrier.specs.MutatorState.{Mutator, heap_of}
use Rattle.compactor.specs.Tables.{Table, moved_word}
use Rattle.compactor.specs.Copying.{Copies, KeepsRest, StandsCopied}
use Rattle.compactor.specs.Sliding.{IsBegun, Slid, is_kept}

-- a kept young cell of the heap that begins before an address
pub record IsYoungBefore (heap : Heap) (to : ℕ) (cell : Cell) : Type 0 where
  pub words : List ℕ
  pub has : HasCell heap cell words
  pub young : eden_start heap.space ≤ cell.at
  pub before : cell.at < to
  pub kept : is_kept cell ≡ true

-- the word at an address is none of such a cell
abbrev pub IsBesideYoung : Heap → ℕ → ℕ → Type 0
IsBesideYoung heap to at =
    (cell : Cell) → IsYoungBefore heap to cell → cell.at ≤ at → at < cell.at + cell.size → ⊥

-- Of the young cells that begin before an address each ends there or before, and each that is kept stands as it stood,
-- its slots moved. No other word has changed.
pub record YoungMoved (first was now : Mutator) (table : Table) (to : ℕ) : Type 0 where
  pub rest : KeepsRest was now
  pub free : now.free ≡ was.free
  pub records : (at : ℕ) → at < was.recorded.bound → Contains now.recorded.slots at ↔ Contains was.recorded.slots at
  pub beyond : (at : ℕ) → was.recorded.bound ≤ at → Contains now.recorded.slots at → Contains was.recorded.slots at
  pub ends : (cell : Cell) (words : List ℕ) → HasCell (heap_of first) cell words
      → eden_start first.seat.space ≤ cell.at → cell.at < to → cell.at + cell.size ≤ to
  pub copied : (cell : Cell) (offset : ℕ) → IsYoungBefore (heap_of first) to cell → offset < cell.size
      → StandsCopied (heap_words first.seat) table cell (heap_words now.seat) cell.at offset
  pub beside : (at : ℕ) → IsBesideYoung (heap_of first) to at
      → slice_get (heap_words now.seat) at ≡ slice_get (heap_words was.seat) at

-- The pass may go along the row of the region of young cells between two addresses.
pub record MayMove (first was now : Mutator) (table : Table) (start end : ℕ) : Type 0 where
  pub begun : IsBegun first
  pub slid : Slid first was table first.seat.space.sizes.pages
  pub stands : StandsBetween first.seat.space start end
  pub young : eden_start first.seat.space ≤ start
  pub moved : YoungMoved first was now table start

-- The pass has gone along the row to an address.
pub record InYoung (first was now : Mutator) (table : Table) (start end limit at : ℕ) : Type 0 where
  pub begun : IsBegun first
  pub slid : Slid first was table first.seat.space.sizes.pages
  pub stands : StandsBetween first.seat.space start end
  pub young : eden_start first.seat.space ≤ start
  pub moved : YoungMoved first was now table at
  pub row : Row
  pub is : IsRowFrom (heap_of first) start row
  pub limit_within : limit ≤ end
  pub ends : EndsBy (heap_words first.seat) limit row.end
  pub from : start ≤ at
  pub front : List Cell
  pub back : List Cell
  pub part : row.cells ≡ front ++ back
  pub to_come : IsRow first.seat.space (heap_words first.seat) at row.end back

-- A young cell stays in place: if it is kept its slots are moved, and else nothing changes.
pub record Stays (old new : Mutator) (table : Table) (cell : Cell) : Type 0 where
  pub free : is_kept cell ≡ false → new ≡ old
  pub kept : is_kept cell ≡ true → Copies old new table cell cell.at cell.size

-- The first root words of the variables before one are moved, and no other word has changed.
pub record RootsMoved (was now : Mutator) (table : Table) (count : ℕ) : Type 0 where
  pub rest : KeepsRest was now
  pub free : now.free ≡ was.free
  pub recorded : now.recorded ≡ was.recorded
  pub roots : (variable word : ℕ) → variable < count → variable < was.seat.space.variables
      → slice_get (heap_words was.seat) (root_at was.seat.space variable) ≡ Some word
      → slice_get (heap_words now.seat) (root_at was.seat.space variable) ≡ Some (moved_word table word)
  pub beside : (at : ℕ)
      → ((variable : ℕ) → variable < count → variable < was.seat.space.variables
      → at ≢ root_at was.seat.space variable)
      → slice_get (heap_words now.seat) at ≡ slice_get (heap_words was.seat) at
