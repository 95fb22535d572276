-- A full heap: what its young generation and its pages have.
use Rattle.std.specs.Prelude.{◌≡◌, ℕ, ◌+◌, ◌*◌, ◌<◌, ◌≤◌, List, length, map, sum_by, Contains, AllPairs}
use Rattle.page_space.specs.Sizes.{page_words}
use Rattle.page_space.specs.Extents.{eden_start}
use Rattle.object_graph.specs.Graphs.{Graph}
use Rattle.heap_model.specs.Types.{Cell}
use Rattle.heap_model.specs.Heaps.{Heap, HasCell, words_of_cell}
use Rattle.live_cells.specs.Exact.{Exact, Fits}
use Rattle.live_cells.specs.Laws.{BelongsToReached}

-- Each of these cells stands in the heap and is of an object that can be reached: its own, or its store, its table or a
-- box. Their addresses ascend, so each is there once.
pub record AreLiveCells (heap : Heap) (graph : Graph) (cells : List Cell) : Type 0 where
  pub stand : (cell : Cell) → Contains cells cell → HasCell heap cell (words_of_cell heap cell)
  pub live : (cell : Cell) → Contains cells cell → BelongsToReached heap graph cell.at
  pub ascend : AllPairs (λ one other. one < other) (map (λ cell. cell.at) cells)

-- The survivors and the used words are those of live cells of the young generation.
pub record HasLiveYoung (heap : Heap) (graph : Graph) : Type 0 where
  pub cells : List Cell
  pub are : AreLiveCells heap graph cells
  pub young : (cell : Cell) → Contains cells cell → eden_start heap.space ≤ cell.at
  pub words : sum_by (λ cell. cell.size) cells ≡ heap.survivors + heap.used

-- As many live cells stand in pages as there are pages.
pub record HasLiveOld (heap : Heap) (graph : Graph) : Type 0 where
  pub cells : List Cell
  pub are : AreLiveCells heap graph cells
  pub old : (cell : Cell) → Contains cells cell → cell.at < eden_start heap.space
  pub many : length cells ≡ heap.space.sizes.pages

-- A cell of the page is of an object that can be reached: its own, or its store, its table or a box.
pub record HasLiveCell (heap : Heap) (graph : Graph) (page : ℕ) : Type 0 where
  pub cell : Cell
  pub words : List ℕ
  pub has : HasCell heap cell words
  pub from : page_words * page ≤ cell.at
  pub below : cell.at + cell.size ≤ page_words * (page + 1)
  pub live : BelongsToReached heap graph cell.at

-- Survivors, used words and so many more are over the young generation; and survivors and used words are those of live
-- cells. Each page has a live cell, unless so many words are more than those of a page; so no fewer live cells stand in
-- pages than there are pages.
pub record FillsHeap (heap : Heap) (graph : Graph) (n : ℕ) : Type 0 where
  pub young : heap.space.sizes.young < heap.survivors + heap.used + n
  pub live : HasLiveYoung heap graph
  pub pages : n ≤ page_words → (page : ℕ) → page < heap.space.sizes.pages → HasLiveCell heap graph page
  pub old : n ≤ page_words → HasLiveOld heap graph

-- So it is with a heap that keeps exactly what can be reached, and into which so many words don't fit: never while
-- these and the words of live cells are at most the words of the young generation, nor while fewer live cells stand in
-- pages than there are pages.
abbrev pub FullIsFilled : Type 0
FullIsFilled = (heap : Heap) (graph : Graph) (n : ℕ) → Exact heap graph → (Fits heap n → ⊥) → FillsHeap heap graph n
