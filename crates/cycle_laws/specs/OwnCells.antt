-- Free runs, and the cells that the mutator made black itself: no run has the address of one, so a scavenge, which
-- leaves each cell of a page in its place unless a free run begins there, leaves each of these.
use Rattle.std.specs.Prelude.{ℕ, ◌⊎◌, List, Option, Contains, IsTrue}
use Rattle.tagged_word.specs.Cells.{is_free_kind}
use Rattle.object_graph.specs.Graphs.{Graph}
use Rattle.heap_model.specs.Types.{Cell, Run}
use Rattle.heap_model.specs.Heaps.{Heap, HasCell}
use Rattle.heap_model.specs.Wholeness.{Whole}
use Rattle.heap_model.specs.Collectable.{AreFreeRuns}
use Rattle.live_cells.specs.Exact.{IsWordOf}
use Rattle.mark_world.specs.Cycles.{Cycle}
use Rattle.cycle_laws.specs.DeadWords.{NoRunHas, GrowsNoRun, PromotesIntoRuns}
use Rattle.cycle_laws.specs.Openings.{Opens}
use Rattle.cycle_laws.specs.Scavenges.{PromotesTo, JoinsPromoted}

-- the word is one of a cell that is not free
pub record IsUsedWord (heap : Heap) (at : ℕ) : Type 0 where
  pub cell : Cell
  pub words : List ℕ
  pub has : HasCell heap cell words
  pub of_cell : IsWordOf cell at
  pub used : IsTrue (is_free_kind cell.layout.kind) → ⊥

-- no free run has such a word
abbrev pub RunsHaveNoUsedWord : Type 0
RunsHaveNoUsedWord =
    (heap : Heap) (rows : List (List Run)) (used : List ℕ) → Whole heap → AreFreeRuns heap rows
    → ((at : ℕ) → Contains used at → IsUsedWord heap at) → NoRunHas rows used

-- as a cycle opens the mutator made no cell black
abbrev pub OpensWithNoOwnCell : Type 0
OpensWithNoOwnCell =
    (heap : Heap) (rows : List (List Run)) (graph : Graph) (cycle : Cycle) → Opens heap graph cycle
    → NoRunHas rows cycle.mine

-- A command makes cells black that stand in words of cells that were not free. It may spend words of free runs, and
-- gives none back.
abbrev pub ChangesAvoidOwnCells : Type 0
ChangesAvoidOwnCells =
    (old : Heap) (before after : List (List Run)) (cycle later : Cycle) → Whole old → AreFreeRuns old before
    → ((at : ℕ) → Contains later.mine at → Contains cycle.mine at ⊎ IsUsedWord old at) → GrowsNoRun before after
    → NoRunHas before cycle.mine → NoRunHas after later.mine

-- the cells that a scavenge promotes count as made black, and stand in no free run that is left
abbrev pub ScavengesAvoidOwnCells : Type 0
ScavengesAvoidOwnCells =
    (old new : Heap) (to : ℕ → Option ℕ) (promoted : List ℕ) (before after : List (List Run)) (cycle later : Cycle)
    → Whole new → PromotesTo old new to promoted → PromotesIntoRuns new promoted before after
    → JoinsPromoted cycle later promoted → AreFreeRuns new after → NoRunHas before cycle.mine
    → NoRunHas after later.mine
