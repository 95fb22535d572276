-- What a scavenge leaves of an open cycle. The cells that it promotes count as made, and as made black by the mutator.
use Rattle.std.specs.Prelude.{◌≡◌, ℕ, ◌<◌, ◌≤◌, ◌⊎◌, List, [], length, Option, Some, All, Contains, IsTrue}
use Rattle.tagged_word.specs.Cells.{is_free_kind}
use Rattle.page_space.specs.Extents.{eden_start}
use Rattle.heap_model.specs.Types.{Cell}
use Rattle.heap_model.specs.Heaps.{Heap, HasCell}
use Rattle.heap_model.specs.Wholeness.{Whole}
use Rattle.heap_moves.specs.Moved.{IsMoved}
use Rattle.mark_world.specs.declared.world.World.{World}
use Rattle.mark_world.specs.Coverage.{colour_of}
use Rattle.mark_world.specs.Pages.{EachFree}
use Rattle.mark_world.specs.Steps.{black}
use Rattle.mark_laws.specs.Restarts.{HasJoined, IsRestarted, KeepsDone}
use Rattle.mark_world.specs.Cycles.{Cycle}
use Rattle.cycle_state.specs.Cycles.{main_of, IsWorldOf}
use Rattle.cycle_state.specs.Keeping.{KeepsClosed}
use Rattle.cycle_state.specs.Resting.{IsUsedPageCell, IsPageCell, Rests}

-- a young cell that is not free came to the address, which is in a page
pub record IsPromoted (old : Heap) (to : ℕ → Option ℕ) (at : ℕ) : Type 0 where
  pub cell : Cell
  pub words : List ℕ
  pub has : HasCell old cell words
  pub used : IsTrue (is_free_kind cell.layout.kind) → ⊥
  pub young : eden_start old.space ≤ cell.at
  pub came : to cell.at ≡ Some at
  pub of_page : at < eden_start old.space

-- A heap is another one moved by a scavenge, which promoted cells to these addresses. What stays of pages stays where
-- it is. A young cell that stays is young, or was promoted; and to each of these addresses one was.
pub record PromotesTo (old new : Heap) (to : ℕ → Option ℕ) (promoted : List ℕ) : Type 0 where
  pub moved : IsMoved old new to
  pub in_place : (at now : ℕ) → at < eden_start old.space → to at ≡ Some now → now ≡ at
  pub young : (at now : ℕ) → eden_start old.space ≤ at → to at ≡ Some now
      → (eden_start old.space ≤ now) ⊎ Contains promoted now
  pub each : (at : ℕ) → Contains promoted at → IsPromoted old to at

-- The cycle goes on with the promoted cells, which have joined each of its lists.
pub record JoinsPromoted (cycle later : Cycle) (promoted : List ℕ) : Type 0 where
  pub starts : HasJoined cycle.starts promoted later.starts
  pub born : HasJoined cycle.born promoted later.born
  pub mine : HasJoined cycle.mine promoted later.mine
  pub sure : HasJoined cycle.sure promoted later.sure
  pub reached : later.reached ≡ cycle.reached
  pub counted : later.made ≡ cycle.made
  pub dead : later.dead ≡ cycle.dead

-- then what is kept stays closed
abbrev pub ScavengesKeepClosed : Type 0
ScavengesKeepClosed =
    (old new : Heap) (to : ℕ → Option ℕ) (promoted : List ℕ) (cycle later : Cycle) → Whole old
    → PromotesTo old new to promoted → JoinsPromoted cycle later promoted → KeepsClosed old cycle
    → KeepsClosed new later

-- Where each free start and each cell that the mutator made black stays, free starts are used cells of pages then. The
-- cells that the mutator made black, promoted ones among them, are cells of pages.
abbrev pub ScavengesKeepCells : Type 0
ScavengesKeepCells =
    (old new : Heap) (to : ℕ → Option ℕ) (promoted : List ℕ) (cycle later : Cycle) → PromotesTo old new to promoted
    → JoinsPromoted cycle later promoted → Rests old cycle → EachFree (main_of cycle) (λ at. to at ≡ Some at)
    → All (λ at. to at ≡ Some at) cycle.mine
    → EachFree (main_of later) (IsUsedPageCell new) × All (IsPageCell new) later.mine

-- The world after a scavenge differs from the one before in its words, and in that promoted cells are black.
pub record BlackensPromoted (world next : World) (promoted : List ℕ) : Type 0 where
  pub board : next.board ≡ world.board
  pub helpers : next.helpers ≡ world.helpers
  pub grey : next.main.grey ≡ world.main.grey
  pub count : length next.colours ≡ length world.colours
  pub blackened : (at : ℕ) → Contains promoted at → colour_of next at ≡ black
  pub others : (at : ℕ) → (Contains promoted at → ⊥) → colour_of next at ≡ colour_of world at

-- Then marking may restart from it, and the scavenge kept each cell that the mutator is done with.
abbrev pub ScavengesRestart : Type 0
ScavengesRestart =
    (old new : Heap) (to : ℕ → Option ℕ) (promoted : List ℕ) (cycle later : Cycle) (world next : World) → Whole old
    → PromotesTo old new to promoted → JoinsPromoted cycle later promoted → Rests old cycle
    → EachFree (main_of cycle) (λ at. to at ≡ Some at) → All (λ at. to at ≡ Some at) cycle.mine
    → IsWorldOf old cycle world → IsWorldOf new later next → BlackensPromoted world next promoted
    → IsRestarted world promoted next × KeepsDone world [] promoted next
