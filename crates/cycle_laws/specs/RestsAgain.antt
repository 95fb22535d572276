-- How a heap rests in an open cycle again after a command.
use Rattle.std.specs.Prelude.{◌≡◌, ◌≢◌, ◌<◌, ◌≤◌, ◌⊎◌, ℕ, List, [], ◌∷◌, length, Contains, IsTrue}
use Rattle.tagged_word.specs.Cells.{is_object_kind}
use Rattle.page_space.specs.Extents.{eden_start}
use Rattle.handle_roots.specs.declared.held.Held.TheVariants as held
use Rattle.object_graph.specs.Graphs.{Graph, make}
use Rattle.object_graph.specs.Reach.{is_marked, reach}
use Rattle.mark_world.specs.Pages.{is_free}
use Rattle.mark_world.specs.BetweenCommands.{Settled}
use Rattle.heap_model.specs.Types.{Cell, Held, Object}
use Rattle.heap_model.specs.Heaps.{Heap, words_of_cell}
use Rattle.heap_model.specs.Slots.{IsPlace}
use Rattle.heap_model.specs.Wholeness.{Whole}
use Rattle.heap_model.specs.Showing.{Shows}
use Rattle.heap_model.specs.Changes.{CellsChange}
use Rattle.heap_model.specs.Laws.{RefersToNothing, ReachesOneMore, bound}
use Rattle.mark_world.specs.Cycles.{Cycle}
use Rattle.cycle_state.specs.Cycles.{main_of, world_in}
use Rattle.cycle_state.specs.Keeping.{IsKept, KeepsClosed}
use Rattle.cycle_state.specs.Resting.{IsUsedPageCell, IsPageCell, Rests}
use Rattle.cycle_laws.specs.Changes.{JoinsNewCells}

-- no cell that went stood at the address
abbrev pub DidNotGo : List Cell → ℕ → Type 0
DidNotGo gone at = (cell : Cell) → Contains gone cell → cell.at ≢ at

-- What a command leaves of the cycle's lists. Each free start was one, and its cell did not go; or a used cell of a
-- page stands there. Each cell that the mutator made black was one, and did not go; or a cell of a page stands there.
pub record KeepsLists (new : Heap) (cycle later : Cycle) (gone : List Cell) : Type 0 where
  pub free : (at : ℕ) → IsTrue (is_free (main_of later) at)
      → (IsTrue (is_free (main_of cycle) at) × DidNotGo gone at) ⊎ IsUsedPageCell new at
  pub mine : (at : ℕ) → Contains later.mine at → (Contains cycle.mine at × DidNotGo gone at) ⊎ IsPageCell new at

-- A heap rests again once a command has changed cells, where what is kept is closed and the mutator's part is done.
abbrev pub CommandsRest : Type 0
CommandsRest =
    (old new : Heap) (cycle later : Cycle) (gone came made : List Cell) → CellsChange old new gone came made
    → JoinsNewCells old new cycle later came made → KeepsLists new cycle later gone → Rests old cycle
    → KeepsClosed new later → Settled (world_in new later) → Rests new later

-- It rests again once a variable was bound anew, if the cell of each object that can be reached then is kept.
abbrev pub BindingsRest : Type 0
BindingsRest =
    (heap : Heap) (after : Graph) (variable : ℕ) (one : Held) (cycle : Cycle) → variable < heap.space.variables
    → Whole heap → Shows (bound heap variable one) after
    → ((number at : ℕ) → IsTrue (is_marked (reach after) number) → IsPlace heap number at → IsKept heap cycle.born at)
    → Rests heap cycle → Rests (bound heap variable one) cycle

-- It rests again once a young object that refers to nothing was made, with the next number, and bound to a variable.
-- The mutator's part has to be done, as where the words of pages are as they were.
abbrev pub NewObjectsRest : Type 0
NewObjectsRest =
    (old new : Heap) (before : Graph) (variable : ℕ) (cell : Cell) (what : Object) (cycle : Cycle)
    → variable < new.space.variables → Shows old before → Whole new → CellsChange old new [] [] (cell ∷ [])
    → IsTrue (is_object_kind cell.layout.kind) → RefersToNothing cell (words_of_cell new cell)
    → eden_start new.space ≤ cell.at → cycle.made ≤ length before.objects
    → cell.header.object ≡ length before.objects
    → ReachesOneMore before (make before variable what) (length before.objects)
    → Shows (bound new variable (held.Ref cell.at)) (make before variable what)
    → Settled (world_in (bound new variable (held.Ref cell.at)) cycle) → Rests old cycle
    → Rests (bound new variable (held.Ref cell.at)) cycle
