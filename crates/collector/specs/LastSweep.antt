-- When what is left of a marking with a head start is what a collection has to leave that ends a cycle.
use Rattle.std.specs.Prelude.{◌≡◌, ◌<◌, ◌≤◌, ◌⊎◌, ℕ, false, List, Contains, IsTrue, length}
use Rattle.tagged_word.specs.Cells.{is_free_kind}
use Rattle.page_space.specs.Extents.{eden_start}
use Rattle.object_graph.specs.Graphs.{Graph}
use Rattle.object_graph.specs.Reach.{is_marked, reach}
use Rattle.heap_model.specs.Types.{Cell}
use Rattle.heap_model.specs.Heaps.{Heap, HasCell}
use Rattle.heap_model.specs.Slots.{IsPlace}
use Rattle.heap_model.specs.Showing.{Shows}
use Rattle.live_cells.specs.Exact.{IsWordOf}
use Rattle.live_cells.specs.Laws.{BelongsToReached}
use Rattle.mark_world.specs.Cycles.{Cycle}
use Rattle.cycle_state.specs.Keeping.{IsKept, KeepsClosed}
use Rattle.cycle_laws.specs.DeadWords.{KeepsNoDeadWord}
use Rattle.cycle_laws.specs.Openings.{Opens}
use Rattle.write_barrier.specs.MutatorState.{Mutator, heap_of}
use Rattle.ephemeron_mark.specs.Marked.{Marked}
use Rattle.collector.specs.Born.{Opening, WasDead, LeavesBorn}
use Rattle.collector.specs.MarkSwept.{IsMarkedFrom, SweepsMarked}

-- each object whose cell is marked could be reached when the cycle began, or was made since
abbrev pub MarksBorn : Opening → Heap → List ℕ → Type 0
MarksBorn opening heap marked =
    (number at : ℕ) → IsPlace heap number at → Contains marked at
    → IsTrue (is_marked (reach opening.graph) number) ⊎ (length opening.graph.objects ≤ number)

-- a cell of a page that is marked, is not free, and belongs to nothing that can be reached in the end, has no word that
-- was dead when the cycle began
abbrev pub MarksNoDeadWord : Opening → (old new : Heap) → List ℕ → Graph → Type 0
MarksNoDeadWord opening old new marked graph =
    (cell : Cell) (words : List ℕ) (at : ℕ) → HasCell old cell words → is_free_kind cell.layout.kind ≡ false
    → cell.at < eden_start old.space → Contains marked cell.at → (BelongsToReached new graph cell.at → ⊥)
    → IsWordOf cell at → WasDead opening at → ⊥

-- A sweep that keeps marked cells leaves all that the end of a cycle has to leave. Two things are asked of these cells,
-- which may have been marked from any starts. Objects' cells are born. Cells of pages that belong to nothing that can
-- be reached have no word that was dead. Nothing is asked of young cells: one that is not marked is free then, as a
-- table that its map outgrew.
abbrev pub SweptIsBorn : Type 0
SweptIsBorn =
    (opening : Opening) (old new : Mutator) (marked : List ℕ) (graph : Graph) → Shows (heap_of old) graph
    → SweepsMarked old new marked graph → MarksBorn opening (heap_of old) marked
    → MarksNoDeadWord opening (heap_of old) (heap_of new) marked graph
    → LeavesBorn opening (heap_of old) (heap_of new) new.free graph

-- A cycle that is open opened with this opening. It has the numbers of the objects that could be reached then, how many
-- objects there were, and the words of pages that were dead.
pub record HasOpenedWith (opening : Opening) (cycle : Cycle) : Type 0 where
  pub first : Cycle
  pub opens : Opens opening.heap opening.graph first
  pub reached : cycle.reached ≡ first.reached
  pub counted : cycle.made ≡ first.made
  pub dead : cycle.dead ≡ first.dead

-- Both are so of a last marking that is given kept cells alone to start at, where what the cycle keeps is closed, and
-- no kept cell of a page has a word that was dead.
abbrev pub LastMarkingsAreBorn : Type 0
LastMarkingsAreBorn =
    (opening : Opening) (old new : Heap) (cycle : Cycle) (given : List ℕ) (marking : Marked) (graph : Graph)
    → old.space ≡ opening.heap.space → HasOpenedWith opening cycle → KeepsClosed old cycle
    → KeepsNoDeadWord old cycle → ((start : ℕ) → Contains given start → IsKept old cycle.born start)
    → IsMarkedFrom old given marking
    → MarksBorn opening old marking.cells × MarksNoDeadWord opening old new marking.cells graph
