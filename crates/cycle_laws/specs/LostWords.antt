-- Words of cells that belong to nothing that can be reached.
use Rattle.std.specs.Prelude.{◌<◌, ℕ, List, Contains, IsTrue}
use Rattle.tagged_word.specs.Cells.{is_free_kind}
use Rattle.page_space.specs.Extents.{eden_start}
use Rattle.object_graph.specs.Graphs.{Graph}
use Rattle.heap_model.specs.Types.{Cell}
use Rattle.heap_model.specs.Heaps.{Heap, HasCell}
use Rattle.heap_model.specs.Showing.{Shows}
use Rattle.live_cells.specs.Exact.{IsWordOf}
use Rattle.live_cells.specs.Laws.{BelongsToReached}

-- the word is one of a cell that is not free, and that belongs to no object that can be reached
pub record IsLostWord (heap : Heap) (graph : Graph) (at : ℕ) : Type 0 where
  pub cell : Cell
  pub words : List ℕ
  pub has : HasCell heap cell words
  pub of_cell : IsWordOf cell at
  pub used : IsTrue (is_free_kind cell.layout.kind) → ⊥
  pub lost : BelongsToReached heap graph cell.at → ⊥

-- exactly the words of pages that are lost are in the list
pub record AreLostWords (heap : Heap) (graph : Graph) (dead : List ℕ) : Type 0 where
  pub of_pages : (at : ℕ) → Contains dead at → at < eden_start heap.space
  pub each : (at : ℕ) → Contains dead at → IsLostWord heap graph at
  pub all : (at : ℕ) → at < eden_start heap.space → IsLostWord heap graph at → Contains dead at

-- a heap that shows a graph has such a list
abbrev pub LostWordsAreListed : Type 0
LostWordsAreListed =
    (heap : Heap) (graph : Graph) → Shows heap graph → (dead : List ℕ) × AreLostWords heap graph dead
