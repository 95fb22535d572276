-- How far a sweep has come: which stretches of cells became free cells, what that made of free runs and of what is
-- recorded, and how far the row of a region has been gone along.
use Rattle.std.specs.Prelude.{◌≡◌, ℕ, ◌+◌, ◌-◌, ◌*◌, ◌/◌, ◌<◌, ◌≤◌, ◌⊎◌, ◌↔◌, List, [], ◌∷◌, ◌++◌, Contains}
use Rattle.std.specs.Prelude.{IsTrue}
use Rattle.std.specs.Prelude.{length, set, slice_get}
use Rattle.tagged_word.specs.Cells.{is_free_kind}
use Rattle.page_space.specs.Sizes.{page_words}
use Rattle.page_space.specs.Extents.{eden_start}
use Rattle.page_space.specs.RegionLaws.{IsSpace}
use Rattle.cell_layout.specs.Cells.{IsRow}
use Rattle.free_runs.specs.FreeRuns.{LiesIn, IsBehind, row_of}
use Rattle.remembered_set.specs.Recorded.{Recorded}
use Rattle.write_barrier.specs.Seats.{RestStays, heap_words}
use Rattle.heap_model.specs.Types.{Cell, Run}
use Rattle.heap_model.specs.Heaps.{Heap, Row, HasCell}
use Rattle.heap_model.specs.Kinds.{HasNoNumber}
use Rattle.heap_walk.specs.Limits.{EndsBy}
use Rattle.heap_model.specs.RegionRows.{StandsBetween, IsRowFrom}
use Rattle.heap_model.specs.Wholeness.{Whole}
use Rattle.heap_model.specs.Changes.{Patch, IsPatch, IsPatched, PatchesDisjoint, written}
use Rattle.heap_model.specs.Remembered.{Touch, Records}
use Rattle.write_barrier.specs.MutatorState.{Mutator, MayStore, heap_of}
use Rattle.write_barrier.specs.FreeCells.{with_free_cell}
use Rattle.write_barrier.specs.Recording.{touched}

-- of all that the mutator has only the free runs of pages have changed, and there are none
pub record IsCleared (old new : Mutator) : Type 0 where
  pub same : new ≡ record old { free = new.free }
  pub count : length new.free ≡ length old.free
  pub none : (page : ℕ) → row_of new.free page ≡ []

-- the number of the page that an address is in, if it is in one
abbrev pub page_of : ℕ → ℕ
page_of at = at / page_words

-- the words from an address up to another
abbrev pub run_between : ℕ → ℕ → Run
run_between from to = record { at = from; words = to - from }

-- Where these words are a page's, they may be a free run more of it.
pub record IsRoomy (main : Mutator) (from to : ℕ) : Type 0 where
  pub there : page_of from < length main.free
  pub lies : LiesIn (page_words * page_of from) (page_words * (page_of from + 1)) (run_between from to)
  pub behind : IsBehind (row_of main.free (page_of from)) (run_between from to)

-- The words from an address up to another, of which there are some, became one free cell, of which nothing is recorded.
-- Where they are a page's, they are a free run more of it, the last one.
pub record Covers (old new : Mutator) (from to : ℕ) : Type 0 where
  pub seat : RestStays old.seat new.seat
  pub paths : new.paths ≡ old.paths
  pub cycle : new.cycle ≡ old.cycle
  pub young : new.young ≡ old.young
  pub words : heap_words new.seat ≡ with_free_cell (heap_words old.seat) from (to - from)
  pub bound : new.recorded.bound ≡ old.recorded.bound
  pub records : Records old.recorded.bound (heap_words old.seat) (heap_words new.seat) old.recorded.slots
      new.recorded.slots (touched Touch.Wiped from to)
  pub in_page : page_of from < old.seat.space.sizes.pages
      → new.free ≡ set old.free (page_of from) (row_of old.free (page_of from) ++ run_between from to ∷ [])
  pub beside : old.seat.space.sizes.pages ≤ page_of from → new.free ≡ old.free

-- A part of a row whose cells are not marked, and in whose words one free cell stands now.
pub record IsFreed (heap : Heap) (words marked : List ℕ) (gap : Patch) : Type 0 where
  pub is : IsPatch heap (written heap words) gap
  pub some : gap.from < gap.to
  pub free : Cell
  pub one : gap.after ≡ free ∷ []
  pub is_free : IsTrue (is_free_kind free.layout.kind)
  pub no_number : HasNoNumber free
  pub unmarked : (cell : Cell) → Contains gap.before cell → Contains marked cell.at → ⊥

-- the address is in one of these
pub record IsInGap (gaps : List Patch) (at : ℕ) : Type 0 where
  pub gap : Patch
  pub among : Contains gaps gap
  pub patched : IsPatched at gap

-- Each cell that begins before an address is marked, or in one of these gaps. They end there or before, have no address
-- in common, and no word beside them has changed.
pub record IsSweptTo (heap : Heap) (words marked : List ℕ) (gaps : List Patch) (to : ℕ) : Type 0 where
  pub long : length words ≡ length heap.words
  pub each : (gap : Patch) → Contains gaps gap → IsFreed heap words marked gap
  pub apart : PatchesDisjoint gaps
  pub below : (gap : Patch) → Contains gaps gap → gap.to ≤ to
  pub kept : (at : ℕ) → (IsInGap gaps at → ⊥) → slice_get words at ≡ slice_get heap.words at
  pub done : (cell : Cell) (were : List ℕ) → HasCell heap cell were → cell.at < to
      → Contains marked cell.at ⊎ IsInGap gaps cell.at

-- the run of a page is one of these gaps
pub record IsRunOfGap (gaps : List Patch) (page : ℕ) (run : Run) : Type 0 where
  pub gap : Patch
  pub among : Contains gaps gap
  pub is : run ≡ run_between gap.from gap.to
  pub in_page : page_of gap.from ≡ page

-- The free runs of pages are the gaps that begin there.
pub record AreRunsOf (gaps : List Patch) (pages : ℕ) (rows : List (List Run)) : Type 0 where
  pub count : length rows ≡ pages
  pub of_gap : (page : ℕ) (run : Run) → Contains (row_of rows page) run → IsRunOfGap gaps page run
  pub each : (gap : Patch) → Contains gaps gap → page_of gap.from < pages
      → Contains (row_of rows (page_of gap.from)) (run_between gap.from gap.to)

-- Recorded is of pages what was, but in these gaps; and nothing else is recorded anew.
pub record AreForgotten (gaps : List Patch) (old new : Recorded) : Type 0 where
  pub bound : new.bound ≡ old.bound
  pub each : (at : ℕ) → at < old.bound
      → Contains new.slots at ↔ (Contains old.slots at × (IsInGap gaps at → ⊥))
  pub beyond : (at : ℕ) → old.bound ≤ at → Contains new.slots at → Contains old.slots at

-- A sweep that began with one mutator has come to another, and to an address.
pub record Sweeping (first now : Mutator) (marked : List ℕ) (to : ℕ) : Type 0 where
  pub seat : RestStays first.seat now.seat
  pub paths : now.paths ≡ first.paths
  pub cycle : now.cycle ≡ first.cycle
  pub young : now.young ≡ first.young
  pub gaps : List Patch
  pub swept : IsSweptTo (heap_of first) (heap_words now.seat) marked gaps to
  pub runs : AreRunsOf gaps first.seat.space.sizes.pages now.free
  pub recorded : AreForgotten gaps first.recorded now.recorded

-- what is known of that with which it began
pub record IsBegun (first : Mutator) : Type 0 where
  pub limits : IsSpace first.seat.space
  pub quiet : MayStore first
  pub whole : Whole (heap_of first)

-- A sweep may go along the row of the region between two addresses.
pub record MaySweep (first now : Mutator) (marked : List ℕ) (start end : ℕ) : Type 0 where
  pub begun : IsBegun first
  pub stands : StandsBetween first.seat.space start end
  pub sweeping : Sweeping first now marked start

-- A sweep has gone along the row of a region to an address. The cells before `from` are done, and those from there on
-- to the address are not marked; they are no more words than a cell may have. In a page no gap ends at `from`.
pub record InRow (first now : Mutator) (marked : List ℕ) (start end limit from at : ℕ) : Type 0 where
  pub begun : IsBegun first
  pub stands : StandsBetween first.seat.space start end
  pub sweeping : Sweeping first now marked from
  pub row : Row
  pub is : IsRowFrom (heap_of first) start row
  pub limit_within : limit ≤ end
  pub ends : EndsBy (heap_words first.seat) limit row.end
  pub from_start : start ≤ from
  pub front : List Cell
  pub stretch : List Cell
  pub rest : List Cell
  pub part : row.cells ≡ front ++ stretch ++ rest
  pub stood : IsRow first.seat.space (heap_words first.seat) from at stretch
  pub to_come : IsRow first.seat.space (heap_words first.seat) at row.end rest
  pub unmarked : (cell : Cell) → Contains stretch cell → Contains marked cell.at → ⊥
  pub short : at ≤ from + page_words
  pub before : end ≤ eden_start first.seat.space → (gap : Patch) → Contains sweeping.gaps gap
      → (gap.to < from) ⊎ (gap.to ≤ start)

-- The cell is the next one of the row.
pub record MayPass (first now : Mutator) (marked : List ℕ) (start end limit from : ℕ) (cell : Cell) : Type 0 where
  pub in_row : InRow first now marked start end limit from cell.at
  pub more : List Cell
  pub next : in_row.rest ≡ cell ∷ more
