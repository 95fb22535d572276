-- Which addresses of pages are to be recorded, address by address; and the cell that an address is in.
use Rattle.std.specs.Prelude.{ℕ, ◌+◌, ◌≤◌, ◌<◌, ◌↔◌, List, Contains}
use Rattle.page_space.specs.Extents.{eden_start}
use Rattle.heap_model.specs.Types.{Cell}
use Rattle.heap_model.specs.Heaps.{Heap}
use Rattle.heap_model.specs.Remembered.{IsPageSlot, RefersToYoung}
use Rattle.image_walk.specs.Spans.{StandsIn}

-- the cell stands in the heap, and the address is that of one of its words
pub record IsCellOver (heap : Heap) (at : ℕ) (cell : Cell) : Type 0 where
  pub stands : StandsIn heap cell
  pub from : cell.at ≤ at
  pub below : at < cell.at + cell.size

-- the address is that of a word of no cell
abbrev pub HasNoCellOver : Heap → ℕ → Type 0
HasNoCellOver heap at = (cell : Cell) → IsCellOver heap at cell → ⊥

-- the address is that of a slot of a page, and the word there refers to a young cell
abbrev pub MustBeRecorded : Heap → ℕ → Type 0
MustBeRecorded heap at = IsPageSlot heap at × RefersToYoung (eden_start heap.space) heap.words at

-- the addresses before another are among these exactly where they are due
abbrev pub AreRecordedTo : Heap → List ℕ → ℕ → Type 0
AreRecordedTo heap slots end = (at : ℕ) → at < end → Contains slots at ↔ MustBeRecorded heap at

-- each of these is the address of a word of a page
abbrev pub AreOfPages : Heap → List ℕ → Type 0
AreOfPages heap slots = (at : ℕ) → Contains slots at → at < eden_start heap.space
