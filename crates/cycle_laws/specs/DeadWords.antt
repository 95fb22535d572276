-- Words that were dead when a cycle opened: no cell that the cycle keeps gets one of them, since no free run has one.
-- So what a cycle ends with holds no cell that was lost before.
use Rattle.std.specs.Prelude.{◌<◌, ◌≤◌, ℕ, List, [], ◌∷◌, Option, Contains, IsTrue}
use Rattle.tagged_word.specs.Cells.{is_free_kind}
use Rattle.page_space.specs.Extents.{eden_start}
use Rattle.free_runs.specs.Laws.{IsFreeWord}
use Rattle.object_graph.specs.Graphs.{Graph}
use Rattle.heap_model.specs.Types.{Cell, Held, Run}
use Rattle.heap_model.specs.Heaps.{Heap, HasCell}
use Rattle.heap_model.specs.Wholeness.{Whole}
use Rattle.heap_model.specs.Showing.{Shows}
use Rattle.heap_model.specs.Changes.{CellsChange}
use Rattle.heap_model.specs.Collectable.{AreFreeRuns}
use Rattle.heap_model.specs.Laws.{bound}
use Rattle.live_cells.specs.Exact.{IsWordOf}
use Rattle.live_cells.specs.Live.{IsLive, IsStart}
use Rattle.mark_world.specs.Cycles.{Cycle}
use Rattle.cycle_state.specs.Keeping.{IsKept, KeepsClosed}
use Rattle.cycle_laws.specs.Changes.{JoinsNewCells}
use Rattle.cycle_laws.specs.Openings.{Opens}
use Rattle.cycle_laws.specs.Scavenges.{PromotesTo, JoinsPromoted}

-- no cell of a page that is kept, and is not free, has a word that was dead when the cycle opened
abbrev pub KeepsNoDeadWord : Heap → Cycle → Type 0
KeepsNoDeadWord heap cycle =
    (cell : Cell) (words : List ℕ) (at : ℕ) → HasCell heap cell words → (IsTrue (is_free_kind cell.layout.kind) → ⊥)
    → cell.at < eden_start heap.space → IsKept heap cycle.born cell.at → IsWordOf cell at → Contains cycle.dead at → ⊥

-- no free run has one of these words
abbrev pub NoRunHas : List (List Run) → List ℕ → Type 0
NoRunHas rows dead = (at : ℕ) → IsFreeWord rows at → Contains dead at → ⊥

-- The heap, whose pages have these free runs, avoids words that were dead when the cycle opened: neither a kept cell
-- of a page, if it is not free, nor a free run has one. So none can be granted, and no cell can be copied into one.
pub record AvoidsDead (heap : Heap) (rows : List (List Run)) (cycle : Cycle) : Type 0 where
  pub cells : KeepsNoDeadWord heap cycle
  pub runs : NoRunHas rows cycle.dead

-- a cycle opens so
abbrev pub OpensAvoidingDead : Type 0
OpensAvoidingDead =
    (heap : Heap) (rows : List (List Run)) (graph : Graph) (cycle : Cycle) → Shows heap graph → AreFreeRuns heap rows
    → Opens heap graph cycle → AvoidsDead heap rows cycle

-- no word came to a free run
abbrev pub GrowsNoRun : (before after : List (List Run)) → Type 0
GrowsNoRun before after = (at : ℕ) → IsFreeWord after at → IsFreeWord before at

-- the word was one of a kept cell of a page, which was not free, and went
pub record WasKeptWord (old : Heap) (born : List ℕ) (gone : List Cell) (at : ℕ) : Type 0 where
  pub cell : Cell
  pub among : Contains gone cell
  pub used : IsTrue (is_free_kind cell.layout.kind) → ⊥
  pub of_page : cell.at < eden_start old.space
  pub kept : IsKept old born cell.at
  pub of_cell : IsWordOf cell at

-- It goes on so where a command changes cells: each cell that came to a page, and is not free, stands in words of such
-- cells. The command may spend words of free runs, and gives none back.
abbrev pub ChangesAvoidDead : Type 0
ChangesAvoidDead =
    (old new : Heap) (before after : List (List Run)) (cycle later : Cycle) (gone came made : List Cell) → Whole old
    → CellsChange old new gone came made → JoinsNewCells old new cycle later came made
    → ((cell : Cell) (at : ℕ) → Contains came cell → (IsTrue (is_free_kind cell.layout.kind) → ⊥)
    → cell.at < eden_start new.space → IsWordOf cell at → WasKeptWord old cycle.born gone at)
    → GrowsNoRun before after → AvoidsDead old before cycle → AvoidsDead new after later

-- it does where a variable is bound anew
abbrev pub BindingsAvoidDead : Type 0
BindingsAvoidDead =
    (heap : Heap) (rows : List (List Run)) (variable : ℕ) (one : Held) (cycle : Cycle)
    → variable < heap.space.variables → Whole heap → AvoidsDead heap rows cycle
    → AvoidsDead (bound heap variable one) rows cycle

-- and where a young cell is made, and bound to a variable
abbrev pub NewObjectsAvoidDead : Type 0
NewObjectsAvoidDead =
    (old new : Heap) (rows : List (List Run)) (variable : ℕ) (cell : Cell) (one : Held) (cycle : Cycle)
    → variable < new.space.variables → Whole old → Whole new → CellsChange old new [] [] (cell ∷ [])
    → eden_start new.space ≤ cell.at → AvoidsDead old rows cycle → AvoidsDead (bound new variable one) rows cycle

-- Cells were promoted into words of free runs alone, and no word came to a free run.
pub record PromotesIntoRuns (new : Heap) (promoted : List ℕ) (before after : List (List Run)) : Type 0 where
  pub taken : (cell : Cell) (words : List ℕ) (at : ℕ) → HasCell new cell words → Contains promoted cell.at
      → IsWordOf cell at → IsFreeWord before at
  pub left : GrowsNoRun before after

-- So it does over a scavenge.
abbrev pub ScavengesAvoidDead : Type 0
ScavengesAvoidDead =
    (old new : Heap) (to : ℕ → Option ℕ) (promoted : List ℕ) (before after : List (List Run)) (cycle later : Cycle)
    → PromotesTo old new to promoted → PromotesIntoRuns new promoted before after
    → JoinsPromoted cycle later promoted → AvoidsDead old before cycle → AvoidsDead new after later

-- As the cycle ends, no cell of a page has such a word that is live from root words and from kept cells, and is not
-- free: the last marking, which starts there, marks none.
abbrev pub LiveHasNoDeadWord : Type 0
LiveHasNoDeadWord =
    (heap : Heap) (cycle : Cycle) (given : List ℕ) (cell : Cell) (words : List ℕ) (at : ℕ) → KeepsClosed heap cycle
    → ((start : ℕ) → Contains given start → IsKept heap cycle.born start) → KeepsNoDeadWord heap cycle
    → HasCell heap cell words → (IsTrue (is_free_kind cell.layout.kind) → ⊥) → cell.at < eden_start heap.space
    → IsLive heap (IsStart heap given) cell.at → IsWordOf cell at → Contains cycle.dead at → ⊥
