-- What a step of marking asks of the mutator, told by the cell of a page that it touches.
use Rattle.std.specs.Prelude.{◌≡◌, ℕ, ◌+◌, ◌<◌, true, false, List, Contains, IsTrue, slice_index}
use Rattle.page_space.specs.Extents.{eden_start}
use Rattle.cell_layout.specs.Cells.{layouts_in, reading_of}
use Rattle.mark_world.specs.Pages.{OfTarget, is_head, is_free, is_quiet}
use Rattle.mark_world.specs.Safety.{FitsTaggedSlot, IsSafe}
use Rattle.mark_world.specs.Conditions.{AreSureAfter, MayStoreSlot, MayStoreOwned, MayStoreHeader, MayBeNew}
use Rattle.heap_model.specs.Types.{Cell}
use Rattle.heap_model.specs.Heaps.{Heap, HasCell}
use Rattle.heap_model.specs.Slots.{reference_word}
use Rattle.heap_model.specs.Wholeness.{Whole}
use Rattle.mark_world.specs.Cycles.{Cycle}
use Rattle.cycle_state.specs.Cycles.{main_of, words_of_pages}
use Rattle.cycle_state.specs.Keeping.{IsKept}
use Rattle.cycle_state.specs.Resting.{Rests}

-- a word of a cell of a page: the cell stands there, and has the offset
pub record IsPageWord (heap : Heap) (cell : Cell) (offset : ℕ) : Type 0 where
  pub words : List ℕ
  pub has : HasCell heap cell words
  pub of_page : cell.at < eden_start heap.space
  pub within : offset < cell.size

-- A word that a slot may hold, with no target or a born one, may be stored at an offset of a cell of a page that is no
-- header and no length.
abbrev pub SlotsMayBeStored : Type 0
SlotsMayBeStored =
    (heap : Heap) (cycle : Cycle) (cell : Cell) (offset word : ℕ) → Whole heap → Rests heap cycle
    → IsPageWord heap cell offset
    → is_head (reading_of cell) offset ≡ false → FitsTaggedSlot word
    → OfTarget (eden_start heap.space) word (Contains cycle.born)
    → MayStoreSlot (eden_start heap.space) (words_of_pages heap) (layouts_in heap.space heap.words) (main_of cycle)
    (cell.at + offset) word

-- any word may be, at an offset that is no tagged slot either
abbrev pub QuietWordsMayBeStored : Type 0
QuietWordsMayBeStored =
    (heap : Heap) (cycle : Cycle) (cell : Cell) (offset : ℕ) → Whole heap → Rests heap cycle
    → IsPageWord heap cell offset
    → is_quiet (reading_of cell) offset ≡ true
    → MayStoreOwned (eden_start heap.space) (words_of_pages heap) (layouts_in heap.space heap.words) (main_of cycle)
    (cell.at + offset)

-- The header of a cell of a page may be changed safely, where the mutator is sure of the targets of its new tagged
-- slots, if the cell is a free start.
abbrev pub HeadersMayBeStored : Type 0
HeadersMayBeStored =
    (heap : Heap) (cycle : Cycle) (cell : Cell) (word : ℕ) → Whole heap → Rests heap cycle
    → IsPageWord heap cell 0
    → IsSafe (layouts_in heap.space heap.words) (slice_index (words_of_pages heap) cell.at) word
    → (IsTrue (is_free (main_of cycle) cell.at)
    → AreSureAfter (eden_start heap.space) (words_of_pages heap) (layouts_in heap.space heap.words) (main_of cycle)
    cell.at word)
    → MayStoreHeader (eden_start heap.space) (words_of_pages heap) (layouts_in heap.space heap.words) (main_of cycle)
    cell.at word

-- A new cell may begin at any word of a cell of a page that the mutator made black itself.
abbrev pub MineMayBeginCells : Type 0
MineMayBeginCells =
    (heap : Heap) (cycle : Cycle) (cell : Cell) (offset : ℕ) → Whole heap → Rests heap cycle
    → IsPageWord heap cell offset
    → Contains cycle.mine cell.at
    → MayBeNew (eden_start heap.space) (words_of_pages heap) (layouts_in heap.space heap.words) (main_of cycle)
    (cell.at + offset)

-- a kept cell of a page is born, so it may be shaded and made black
abbrev pub KeptMayBeBlackened : Type 0
KeptMayBeBlackened =
    (heap : Heap) (cycle : Cycle) (at : ℕ) → IsKept heap cycle.born at → at < eden_start heap.space
    → Contains cycle.born at

-- a word that refers to kept cells alone has no target, or a born one
abbrev pub KeptTargetsAreBorn : Type 0
KeptTargetsAreBorn =
    (heap : Heap) (cycle : Cycle) (word : ℕ)
    → ((at : ℕ) → word ≡ reference_word at → IsKept heap cycle.born at)
    → OfTarget (eden_start heap.space) word (Contains cycle.born)
