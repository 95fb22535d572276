-- What the world of marking reads of a heap's pages: the cells that stand there, and their words.
use Rattle.std.specs.Prelude.{◌≡◌, ℕ, ◌+◌, ◌<◌, List, Some, slice_index}
use Rattle.page_space.specs.Extents.{eden_start}
use Rattle.cell_layout.specs.Cells.{layouts_in, reading_of}
use Rattle.mark_world.specs.Pages.{cell_at}
use Rattle.heap_model.specs.Types.{Cell}
use Rattle.heap_model.specs.Heaps.{Heap, HasCell}
use Rattle.heap_model.specs.Kinds.{HasWord}
use Rattle.cycle_state.specs.Cycles.{words_of_pages}

-- what marking reads at a cell of a page is that cell
abbrev pub PageCellsAreRead : Type 0
PageCellsAreRead =
    (heap : Heap) (cell : Cell) (words : List ℕ) → HasCell heap cell words → cell.at < eden_start heap.space
    → cell_at (eden_start heap.space) (words_of_pages heap) (layouts_in heap.space heap.words) cell.at
    ≡ Some (reading_of cell)

-- and what it reads at an offset of the cell is the word there
abbrev pub PageWordsAreRead : Type 0
PageWordsAreRead =
    (heap : Heap) (cell : Cell) (words : List ℕ) (offset word : ℕ) → HasCell heap cell words
    → cell.at < eden_start heap.space → HasWord words offset word
    → slice_index (words_of_pages heap) (cell.at + offset) ≡ word
