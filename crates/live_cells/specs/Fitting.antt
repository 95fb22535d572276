-- What dead words are in free runs, and so how many words fit.
use Rattle.std.specs.Prelude.{◌≡◌, ℕ, ◌+◌, ◌<◌, ◌≤◌, ◌⊎◌, List, Option, Some, Contains, IsTrue}
use Rattle.page_space.specs.declared.run.Run.{Run}
use Rattle.page_space.specs.Extents.{eden_start}
use Rattle.free_runs.specs.FreeRuns.{AreFree, FitsNowhere, row_of}
use Rattle.free_runs.specs.Laws.{IsFreeWord}
use Rattle.object_graph.specs.Graphs.{Graph}
use Rattle.heap_model.specs.Types.{Cell}
use Rattle.heap_model.specs.Heaps.{Heap, HasCell}
use Rattle.heap_model.specs.Wholeness.{HasRows}
use Rattle.heap_model.specs.Needs.{lacks_room}
use Rattle.heap_model.specs.Showing.{Shows}
use Rattle.heap_model.specs.Reaching.{IsReached}
use Rattle.heap_model.specs.Collectable.{AreFreeRuns}
use Rattle.heap_moves.specs.Moved.{moved_to, IsMoved}
use Rattle.live_cells.specs.Exact.{KeepsNoOther, IsWordOf, IsDeadWord, Fits}
use Rattle.live_cells.specs.Keeping.{StayInPlace}
use Rattle.live_cells.specs.Live.{AreLive}

-- each dead word of a page is in a free run
abbrev pub DeadIsFree : Heap → List (List Run) → Type 0
DeadIsFree heap rows = (at : ℕ) → at < eden_start heap.space → IsDeadWord heap at → IsFreeWord rows at

-- Then so many words fit nowhere, if no run has them, and they have no room beside survivors and used words.
abbrev pub NoRunFitsNone : Type 0
NoRunFitsNone =
    (heap : Heap) (rows : List (List Run)) (n : ℕ) → 1 ≤ n → AreFree rows → DeadIsFree heap rows → FitsNowhere rows n
    → IsTrue (lacks_room heap n) → Fits heap n → ⊥

-- Where each free run is one free cell, and one of them has so many words, these fit.
abbrev pub RunsFit : Type 0
RunsFit =
    (heap : Heap) (rows : List (List Run)) (page : ℕ) (run : Run) (n : ℕ) → HasRows heap → AreFree rows
    → AreFreeRuns heap rows → Contains (row_of rows page) run → n ≤ run.words → Fits heap n

-- the word at the address is one of a cell that stands at one of these
pub record IsWordAmong (heap : Heap) (marked : List ℕ) (at : ℕ) : Type 0 where
  pub cell : Cell
  pub words : List ℕ
  pub has : HasCell heap cell words
  pub among : Contains marked cell.at
  pub of_cell : IsWordOf cell at

-- Where just the live cells of a heap stay, in their places, and each word of a page that no live cell had is in a free
-- run, each dead word of a page is.
abbrev pub SweptDeadIsFree : Type 0
SweptDeadIsFree =
    (old new : Heap) (marked : List ℕ) (to : ℕ → Option ℕ) (graph : Graph) (rows : List (List Run)) → Shows old graph
    → AreLive old marked → StayInPlace marked to → IsMoved old new to
    → ((at : ℕ) → at < eden_start old.space → (IsWordAmong old marked at → ⊥) → IsFreeWord rows at)
    → DeadIsFree new rows

-- the word is one of a cell that was reached, where that stands now
pub record IsOfReached (old new : Heap) (at : ℕ) : Type 0 where
  pub cell : Cell
  pub words : List ℕ
  pub had : HasCell old cell words
  pub reached : IsReached old cell.at
  pub now : ℕ
  pub others : List ℕ
  pub has : HasCell new (moved_to cell now) others
  pub from : now ≤ at
  pub below : at < now + cell.size

-- And so it stays when the heap is moved, where what stays of pages stays in its place, and words of free runs are
-- taken for cells alone that were reached.
abbrev pub MovedDeadIsFree : Type 0
MovedDeadIsFree =
    (old new : Heap) (to : ℕ → Option ℕ) (graph : Graph) (rows left : List (List Run)) → KeepsNoOther old graph
    → IsMoved old new to
    → ((at now : ℕ) → at < eden_start old.space → to at ≡ Some now → now ≡ at)
    → ((at : ℕ) → IsFreeWord rows at → IsFreeWord left at ⊎ IsOfReached old new at)
    → DeadIsFree old rows → DeadIsFree new left
