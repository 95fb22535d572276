-- How a cycle of marking opens, where no cell is young.
use Rattle.std.specs.Prelude.{◌≡◌, ◌↔◌, ℕ, false, [], length, All, Contains, IsTrue}
use Rattle.page_space.specs.Extents.{eden_start}
use Rattle.page_space.specs.RegionLaws.{IsSpace}
use Rattle.core_parts.specs.Boards.{empty_board}
use Rattle.object_graph.specs.Graphs.{Graph}
use Rattle.object_graph.specs.Reach.{is_marked, reach}
use Rattle.mark_world.specs.declared.world.World.{World}
use Rattle.mark_world.specs.Soundness.{IsEmptyView}
use Rattle.mark_world.specs.BetweenCommands.{Fresh}
use Rattle.mark_world.specs.Steps.{white}
use Rattle.heap_model.specs.Heaps.{Heap}
use Rattle.heap_model.specs.Showing.{Shows}
use Rattle.live_cells.specs.Laws.{BelongsToReached}
use Rattle.mark_world.specs.Cycles.{Cycle}
use Rattle.cycle_state.specs.Cycles.{IsWorldOf}
use Rattle.cycle_state.specs.Resting.{Rests}
use Rattle.cycle_laws.specs.LostWords.{AreLostWords}

-- A cycle opens with a heap that shows a graph. The heap rests in it. The cells that count as reached are those that
-- belong to objects that can be reached, and these are the published ones. The mutator made none black, and is sure of
-- none. The cycle has the numbers of these objects, how many objects there are, and the words of pages that belong to
-- nothing that can be reached.
pub record Opens (heap : Heap) (graph : Graph) (cycle : Cycle) : Type 0 where
  pub rests : Rests heap cycle
  pub born : (at : ℕ) → Contains cycle.born at ↔ BelongsToReached heap graph at
  pub starts : cycle.starts ≡ cycle.born
  pub mine : cycle.mine ≡ []
  pub sure : cycle.sure ≡ []
  pub reached : (number : ℕ) → Contains cycle.reached number ↔ IsTrue (is_marked (reach graph) number)
  pub counted : cycle.made ≡ length graph.objects
  pub dead : AreLostWords heap graph cycle.dead

-- a heap that shows a graph and has no young cell opens one
abbrev pub CyclesOpen : Type 0
CyclesOpen =
    (heap : Heap) (graph : Graph) → Shows heap graph → heap.survivors ≡ 0 → heap.used ≡ 0
    → (cycle : Cycle) × Opens heap graph cycle

-- The world of the heap's pages as a cycle begins: no cell has a colour, no cell waits on the board, and no seat is
-- out.
pub record IsFirstWorldOf (heap : Heap) (cycle : Cycle) (world : World) : Type 0 where
  pub of : IsWorldOf heap cycle world
  pub count : length world.colours ≡ eden_start heap.space
  pub colours : All (λ colour. colour ≡ white) world.colours
  pub board : world.board ≡ empty_board
  pub none_out : All (λ view. view.out ≡ false) world.helpers
  pub empty : All IsEmptyView world.helpers
  pub grey : world.main.grey ≡ []
  pub log : world.main.log ≡ []

-- that world is fresh
abbrev pub FirstWorldsAreFresh : Type 0
FirstWorldsAreFresh =
    (heap : Heap) (graph : Graph) (cycle : Cycle) (world : World) → IsSpace heap.space → Shows heap graph
    → Opens heap graph cycle → IsFirstWorldOf heap cycle world → Fresh world
