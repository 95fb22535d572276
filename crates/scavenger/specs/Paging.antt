-- What stands in pages while a scavenge goes on: it stays where slots are written and cells are copied to the segment,
-- and a copy in a free run joins it.
use Rattle.std.specs.Prelude.{◌≡◌, ◌≢◌, ℕ, ◌+◌, ◌-◌, ◌≤◌, ◌↔◌, ◌⊎◌, List, Contains, slice_set}
use Rattle.page_space.specs.Extents.{Space, eden_start}
use Rattle.cell_layout.specs.Cells.{IsCell}
use Rattle.free_runs.specs.FreeRuns.{AreFree, TakesFront}
use Rattle.free_runs.specs.Laws.{IsFreeWord}
use Rattle.heap_model.specs.Types.{Cell, Run}
use Rattle.write_barrier.specs.FreeCells.{with_free_cell}
use Rattle.scav_copy.specs.declared.places.Home.{Home}
use Rattle.scav_copy.specs.Places.{Fixed, IsInCopies, StoodAt}
use Rattle.scav_copy.specs.Copies.{with_home}
use Rattle.scavenger.specs.Starts.{Start, IsBegun, IsFreeRun, room_start}
use Rattle.scavenger.specs.Filling.{CopiesFillRooms, IsInPromoted, PagesStand}
use Rattle.scavenger.specs.Following.{IsFreeAt, moved_words}

-- each free run is a free cell, and ends before eden
pub record IsRunStanding (start : Start) (words : List ℕ) (run : Run) : Type 0 where
  pub free : Cell
  pub is : IsFreeAt start.heap.space words free run.at
  pub size : free.size ≡ run.words
  pub in_page : run.at + run.words ≤ eden_start start.heap.space

abbrev pub FreeRunsStand : Type 0
FreeRunsStand =
    (start : Start) (fixed : Fixed) (words : List ℕ) (rows : List (List Run)) (homes : List Home) (fill : ℕ) (run : Run)
    → IsBegun start fixed → CopiesFillRooms start fixed words rows homes fill → IsFreeRun rows run
    → IsRunStanding start words run

-- a live slot may become any word
abbrev pub PagesStayForSlots : Type 0
PagesStayForSlots =
    (start : Start) (fixed : Fixed) (words : List ℕ) (rows : List (List Run)) (homes : List Home)
    (fill slot place word : ℕ)
    → IsBegun start fixed → CopiesFillRooms start fixed words rows homes fill → StoodAt fixed homes slot place
    → PagesStand start (slice_set words slot word) rows homes

-- the cell is one that is to be copied, as it was, and has no home
pub record IsUnmoved (start : Start) (fixed : Fixed) (words : List ℕ) (homes : List Home) (cell : Cell) : Type 0 where
  pub among : Contains fixed.cells cell.at
  pub is_cell : IsCell start.heap.space words cell
  pub none : (home : Home) → Contains homes home → home.from ≢ cell.at

-- a cell may be copied behind the copies of the segment
abbrev pub PagesStayForCopies : Type 0
PagesStayForCopies =
    (start : Start) (fixed : Fixed) (words : List ℕ) (rows : List (List Run)) (homes : List Home) (fill : ℕ)
    (cell : Cell)
    → IsBegun start fixed → CopiesFillRooms start fixed words rows homes fill → IsUnmoved start fixed words homes cell
    → fill + cell.size ≤ room_start start.heap.space start.half + start.heap.space.sizes.young
    → PagesStand start (moved_words words cell fill) rows (with_home homes (record { from = cell.at; to = fill }))

-- The words of a page once a cell was copied to the first words of a free run, and the others became one free cell.
abbrev pub promoted_words : List ℕ → Cell → Cell → ℕ → List ℕ
promoted_words words cell free to =
    moved_words (with_free_cell words (to + cell.size) (free.size - cell.size)) cell to

-- So what stands there stays, and the copy joins it.
abbrev pub PagesTakeCopies : Type 0
PagesTakeCopies =
    (start : Start) (fixed : Fixed) (words : List ℕ) (rows left : List (List Run)) (homes : List Home) (fill : ℕ)
    (cell free : Cell) (run : Run)
    → IsBegun start fixed → CopiesFillRooms start fixed words rows homes fill → IsUnmoved start fixed words homes cell
    → TakesFront rows left cell.size run → IsFreeAt start.heap.space words free run.at
    → PagesStand start (promoted_words words cell free run.at) left
    (with_home homes (record { from = cell.at; to = run.at }))

-- And each word that was in a free run is in one or in a copy: where a copy goes to a free run, and where to the
-- segment.
abbrev pub WordsAreLeft : Type 0
WordsAreLeft =
    (start : Start) (fixed : Fixed) (words : List ℕ) (rows left : List (List Run)) (homes : List Home) (fill : ℕ)
    (cell free : Cell) (run : Run) (at : ℕ)
    → IsBegun start fixed → CopiesFillRooms start fixed words rows homes fill → IsUnmoved start fixed words homes cell
    → TakesFront rows left cell.size run → IsFreeAt start.heap.space words free run.at
    → IsFreeWord start.rows at
    ↔ (IsFreeWord left at ⊎ IsInPromoted start fixed (with_home homes (record { from = cell.at; to = run.at })) at)

abbrev pub WordsStayLeft : Type 0
WordsStayLeft =
    (start : Start) (fixed : Fixed) (words : List ℕ) (rows : List (List Run)) (homes : List Home) (fill : ℕ)
    (cell : Cell) (at : ℕ)
    → IsBegun start fixed → CopiesFillRooms start fixed words rows homes fill → IsUnmoved start fixed words homes cell
    → IsFreeWord start.rows at
    ↔ (IsFreeWord rows at ⊎ IsInPromoted start fixed (with_home homes (record { from = cell.at; to = fill })) at)

-- No word of a free run is in a copy then: where it goes to a free run, and where to the segment.
abbrev pub FreeIsLeftApart : Type 0
FreeIsLeftApart =
    (start : Start) (fixed : Fixed) (words : List ℕ) (rows left : List (List Run)) (homes : List Home) (fill : ℕ)
    (cell : Cell) (run : Run) (at : ℕ)
    → IsBegun start fixed → CopiesFillRooms start fixed words rows homes fill → IsUnmoved start fixed words homes cell
    → TakesFront rows left cell.size run → IsFreeWord left at
    → IsInCopies fixed (with_home homes (record { from = cell.at; to = run.at })) at → ⊥

abbrev pub FreeStaysApart : Type 0
FreeStaysApart =
    (start : Start) (fixed : Fixed) (words : List ℕ) (rows : List (List Run)) (homes : List Home) (fill : ℕ)
    (cell : Cell) (at : ℕ)
    → IsBegun start fixed → CopiesFillRooms start fixed words rows homes fill → IsUnmoved start fixed words homes cell
    → IsFreeWord rows at → IsInCopies fixed (with_home homes (record { from = cell.at; to = fill })) at → ⊥

-- and runs stay rows of their pages
abbrev pub FreeIsLeft : Type 0
FreeIsLeft =
    (space : Space) (words : List ℕ) (rows left : List (List Run)) (cell : Cell) (run : Run) → IsCell space words cell
    → AreFree rows → TakesFront rows left cell.size run → AreFree left
