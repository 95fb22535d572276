-- Images of a heap: the same cells, roots and layout words, and 0 where no cell stands.
use Rattle.std.specs.Prelude.{◌≡◌, ℕ, ◌<◌, ◌≤◌, List, length, Some, slice_get}
use Rattle.page_space.specs.Extents.{Space, roots_start, layouts_start, marks_start}
use Rattle.heap_model.specs.declared.image.HeapImage.{HeapImage}
use Rattle.heap_model.specs.Types.{Cell}
use Rattle.heap_model.specs.Heaps.{Heap, HasCell}
use Rattle.live_cells.specs.Exact.{IsWordOf}

-- the address is that of a word of a cell of the heap of which this holds
pub record IsOfSomeCell (heap : Heap) (Holds : Cell → Type 0) (at : ℕ) : Type 0 where
  pub cell : Cell
  pub words : List ℕ
  pub has : HasCell heap cell words
  pub of_cell : IsWordOf cell at
  pub holds : Holds cell

-- The words of an image of the heap. There is one for each address before the marks. Each word of a cell, each root
-- word and each layout word is the heap's. Each other word of pages, of eden and of the segments is 0.
pub record AreWordsOf (heap : Heap) (words : List ℕ) : Type 0 where
  pub count : length words ≡ marks_start heap.space
  pub cells : (at : ℕ) → IsOfSomeCell heap (λ cell. Unit {0}) at → slice_get words at ≡ slice_get heap.words at
  pub rest : (at : ℕ) → at < roots_start heap.space → (IsOfSomeCell heap (λ cell. Unit {0}) at → ⊥)
      → slice_get words at ≡ Some 0
  pub roots : (at : ℕ) → roots_start heap.space ≤ at → at < layouts_start heap.space
      → slice_get words at ≡ slice_get heap.words at
  pub layouts : (at : ℕ) → layouts_start heap.space ≤ at → at < marks_start heap.space
      → slice_get words at ≡ slice_get heap.words at

-- The second heap is an image of the first. It has the same sizes and as many variables. As many words of eden are
-- used. The survivors have as many words. The shapes are the same. The words are those of an image.
pub record IsImageOf (heap image : Heap) : Type 0 where
  pub space : image.space ≡ heap.space
  pub used : image.used ≡ heap.used
  pub survivors : image.survivors ≡ heap.survivors
  pub paths : image.paths ≡ heap.paths
  pub words : AreWordsOf heap image.words

-- images of heaps of these regions can be put there: it has the regions, and a word for each address before the marks
pub record IsRoomFor (space : Space) (image : HeapImage) : Type 0 where
  pub regions : image.regions ≡ space
  pub words : length image.words ≡ marks_start space
