-- What holds of a heap between two commands of an open cycle of marking.
use Rattle.std.specs.Prelude.{◌≡◌, ℕ, ◌<◌, List, All, IsTrue}
use Rattle.tagged_word.specs.Cells.{is_free_kind}
use Rattle.page_space.specs.Extents.{eden_start}
use Rattle.page_space.specs.Sizes.{page_words}
use Rattle.mark_world.specs.Pages.{EachFree}
use Rattle.mark_world.specs.BetweenCommands.{Settled}
use Rattle.heap_model.specs.Types.{Cell}
use Rattle.heap_model.specs.Heaps.{Heap, HasCell}
use Rattle.mark_world.specs.Cycles.{Cycle}
use Rattle.cycle_state.specs.Cycles.{main_of, world_in}
use Rattle.cycle_state.specs.Keeping.{KeepsClosed}

-- a cell of a page that is not free stands at the address
pub record IsUsedPageCell (heap : Heap) (at : ℕ) : Type 0 where
  pub cell : Cell
  pub words : List ℕ
  pub has : HasCell heap cell words
  pub stands : cell.at ≡ at
  pub of_page : at < eden_start heap.space
  pub used : IsTrue (is_free_kind cell.layout.kind) → ⊥

-- A cell of a page stands at the address. It may be free: a trim from the left leaves a free cell where its store
-- began. But then it is not the whole page, of which the store has some words still.
pub record IsPageCell (heap : Heap) (at : ℕ) : Type 0 where
  pub cell : Cell
  pub words : List ℕ
  pub has : HasCell heap cell words
  pub stands : cell.at ≡ at
  pub of_page : at < eden_start heap.space
  pub part : IsTrue (is_free_kind cell.layout.kind) → cell.size < page_words

-- The heap rests in the cycle. What is kept is closed. The mutator's part of marking is done. Each free start, which is
-- a cell that a helper may be reading, is a used cell of a page; and each cell that the mutator made black itself is a
-- cell of a page.
pub record Rests (heap : Heap) (cycle : Cycle) : Type 0 where
  pub keeps : KeepsClosed heap cycle
  pub settled : Settled (world_in heap cycle)
  pub free : EachFree (main_of cycle) (IsUsedPageCell heap)
  pub mine : All (IsPageCell heap) cycle.mine
