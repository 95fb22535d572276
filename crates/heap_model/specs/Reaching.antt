-- Which cells of a heap are reached from its variables and its pages, when it keeps no young ones beside, and what may
-- come to its pages.
use Rattle.std.specs.Prelude.{◌≡◌, ℕ, ◌<◌, ◌≤◌, List, Contains, Some, slice_get, IsTrue}
use Rattle.tagged_word.specs.Cells.{scavenge_offsets, is_free_kind}
use Rattle.page_space.specs.Extents.{eden_start}
use Rattle.handle_roots.specs.Roots.{root_at}
use Rattle.heap_model.specs.Types.{Cell}
use Rattle.heap_model.specs.Heaps.{Heap, HasCell}
use Rattle.heap_model.specs.Slots.{reference_word}
use Rattle.heap_model.specs.Kinds.{HasWord}
use Rattle.heap_model.specs.Remembered.{IsSlotOf, IsPageSlot}

-- References lead to the address: a variable holds the one to it, or a slot of any cell of a page does, or a slot of a
-- cell that is reached. The pairs of a weak table are slots like others.
pub data IsReached (heap : Heap) : ℕ → Type 0 where
  by_variable : (variable at : ℕ) → variable < heap.space.variables
      → slice_get heap.words (root_at heap.space variable) ≡ Some (reference_word at) → IsReached heap at
  by_page : (slot at : ℕ) → IsPageSlot heap slot → slice_get heap.words slot ≡ Some (reference_word at)
      → IsReached heap at
  by_slot : (cell : Cell) (words : List ℕ) (offset at : ℕ) → IsReached heap cell.at → HasCell heap cell words
      → Contains (scavenge_offsets cell.layout cell.length) offset → HasWord words offset (reference_word at)
      → IsReached heap at

-- the address is that of a slot of a cell of a page, and that cell stood there before
pub record IsOldPageSlot (old new : Heap) (at : ℕ) : Type 0 where
  pub cell : Cell
  pub words : List ℕ
  pub had : HasCell old cell words
  pub others : List ℕ
  pub has : HasCell new cell others
  pub of_page : cell.at < eden_start new.space
  pub slot : IsSlotOf cell at

-- References of the new heap lead to the address, and the way begins at a variable, or at a slot of a cell of a page
-- that stood there before. A cell that came to a page begins none, so cells that came there and are reached by one
-- another alone are not reached so.
pub data IsReachedFrom (old new : Heap) : ℕ → Type 0 where
  by_variable : (variable at : ℕ) → variable < new.space.variables
      → slice_get new.words (root_at new.space variable) ≡ Some (reference_word at) → IsReachedFrom old new at
  by_page : (slot at : ℕ) → IsOldPageSlot old new slot → slice_get new.words slot ≡ Some (reference_word at)
      → IsReachedFrom old new at
  by_slot : (cell : Cell) (words : List ℕ) (offset at : ℕ) → IsReachedFrom old new cell.at → HasCell new cell words
      → Contains (scavenge_offsets cell.layout cell.length) offset → HasWord words offset (reference_word at)
      → IsReachedFrom old new at

-- A cell stood there before, or is free, or is reached from variables and from what stood in pages before.
pub data IsOldOrReached (old new : Heap) (cell : Cell) : Type 0 where
  stood : (words : List ℕ) → HasCell old cell words → IsOldOrReached old new cell
  free : IsTrue (is_free_kind cell.layout.kind) → IsOldOrReached old new cell
  reached : IsReachedFrom old new cell.at → IsOldOrReached old new cell

-- What came to pages from one heap to another is free, or is reached so.
abbrev pub FillsPages : Heap → Heap → Type 0
FillsPages old new =
    (cell : Cell) (words : List ℕ) → HasCell new cell words → cell.at < eden_start new.space
    → IsOldOrReached old new cell

-- Of young cells only those are kept that are reached.
abbrev pub IsTight : Heap → Type 0
IsTight heap =
    (cell : Cell) (words : List ℕ) → HasCell heap cell words → eden_start heap.space ≤ cell.at
    → IsReached heap cell.at
