-- Which slots of pages refer to young cells; how a change of words and of cells keeps a list of them right.
use Rattle.std.specs.Prelude.{◌≡◌, ℕ, ◌+◌, ◌<◌, ◌≤◌, ◌↔◌, ◌⊎◌, List, Contains, Some, slice_get}
use Rattle.tagged_word.specs.Cells.{scavenge_offsets}
use Rattle.tagged_word.specs.Readings.{reference_in}
use Rattle.page_space.specs.Extents.{eden_start}
use Rattle.heap_model.specs.Types.{Cell}
use Rattle.heap_model.specs.Heaps.{Heap, HasCell}
use Rattle.heap_model.specs.Wholeness.{HasRows, Whole}
use Rattle.heap_model.specs.Changes.{IsFillerAt, CellsChange}

-- the address is that of a slot of the cell which a scavenge visits
pub record IsSlotOf (cell : Cell) (at : ℕ) : Type 0 where
  pub offset : ℕ
  pub visited : Contains (scavenge_offsets cell.layout cell.length) offset
  pub stands : cell.at + offset ≡ at

-- the address is that of a slot of a cell of a page
pub record IsPageSlot (heap : Heap) (at : ℕ) : Type 0 where
  pub cell : Cell
  pub words : List ℕ
  pub has : HasCell heap cell words
  pub of_page : cell.at < eden_start heap.space
  pub slot : IsSlotOf cell at

-- the word at the address refers to a cell of the young generation, which begins at `eden`
pub record RefersToYoung (eden : ℕ) (words : List ℕ) (at : ℕ) : Type 0 where
  pub word : ℕ
  pub stands : slice_get words at ≡ Some word
  pub cell : ℕ
  pub refers : reference_in word ≡ Some cell
  pub young : eden ≤ cell

-- These are the addresses of the slots of pages that refer to young cells: of all of them, and of nothing else.
abbrev pub AreRemembered : Heap → List ℕ → Type 0
AreRemembered heap slots =
    (at : ℕ) → Contains slots at ↔ (IsPageSlot heap at × RefersToYoung (eden_start heap.space) heap.words at)

-- What becomes of the record of an address of a page. The word there and its record stay; or a slot's word was put
-- there; or what is no slot's was, or the word was given up.
pub data Touch : Type 0 where
  Kept : Touch
  Stored : Touch
  Wiped : Touch

-- So the word stays and is recorded exactly where it was; or it is recorded exactly where it refers to a young cell; or
-- it is not recorded.
abbrev pub IsRecordedBy : (eden : ℕ) → (old new were are : List ℕ) → (at : ℕ) → Touch → Type 0
IsRecordedBy eden old new were are at Touch.Kept =
    (slice_get new at ≡ slice_get old at) × (Contains are at ↔ Contains were at)
IsRecordedBy eden old new were are at Touch.Stored = Contains are at ↔ RefersToYoung eden new at
IsRecordedBy eden old new were are at Touch.Wiped = Contains are at → ⊥

-- Words became others, and the recorded addresses too: each address of a page was touched so, and no other is recorded
-- anew.
pub record Records (eden : ℕ) (old new were are : List ℕ) (touch : ℕ → Touch) : Type 0 where
  pub each : (at : ℕ) → at < eden → IsRecordedBy eden old new were are at (touch at)
  pub beyond : (at : ℕ) → eden ≤ at → Contains are at → Contains were at

-- the address is that of a slot of one of these cells
pub record IsSlotOfOne (cells : List Cell) (at : ℕ) : Type 0 where
  pub cell : Cell
  pub among : Contains cells cell
  pub slot : IsSlotOf cell at

-- the word at the address is one of these cells'
pub record IsInOneOf (cells : List Cell) (at : ℕ) : Type 0 where
  pub cell : Cell
  pub among : Contains cells cell
  pub from : cell.at ≤ at
  pub below : at < cell.at + cell.size

-- In place of cells of a heap, whose young generation begins at `eden`, others came. Beside the words from an address
-- up to another, in which cells were made, touched were only words of those that went; what was put as a slot's word is
-- in a slot of those that came, and what was wiped in none; and a word that was not touched is a slot of those that
-- came exactly where it was one of those that went.
pub record TouchesBeside (eden from to : ℕ) (gone came : List Cell) (touch : ℕ → Touch) : Type 0 where
  pub within : (at : ℕ) → at < eden → (from ≤ at → at < to → ⊥) → (touch at ≡ Touch.Kept) ⊎ IsInOneOf gone at
  pub stored : (at : ℕ) → at < eden → (from ≤ at → at < to → ⊥) → touch at ≡ Touch.Stored → IsSlotOfOne came at
  pub wiped : (at : ℕ) → at < eden → (from ≤ at → at < to → ⊥) → touch at ≡ Touch.Wiped → IsSlotOfOne came at → ⊥
  pub kept : (at : ℕ) → at < eden → (from ≤ at → at < to → ⊥) → touch at ≡ Touch.Kept
      → IsSlotOfOne gone at ↔ IsSlotOfOne came at

-- The words from an address up to another of which cells were made: those of pages were fillers. Each word is of a cell
-- that was made, and these have their slots there. What was put as a slot's word is in a slot of these, and what was
-- wiped or not touched in none.
pub record TouchesMade (old : Heap) (from to : ℕ) (made : List Cell) (touch : ℕ → Touch) : Type 0 where
  pub fillers : (at : ℕ) → at < eden_start old.space → from ≤ at → at < to → IsFillerAt old at
  pub covers : (at : ℕ) → from ≤ at → at < to → IsInOneOf made at
  pub within : (at : ℕ) → IsSlotOfOne made at → (from ≤ at) × (at < to)
  pub stored : (at : ℕ) → at < eden_start old.space → from ≤ at → at < to → touch at ≡ Touch.Stored
      → IsSlotOfOne made at
  pub slots : (at : ℕ) → at < eden_start old.space → IsSlotOfOne made at → touch at ≡ Touch.Stored

-- Cells of a heap went, others came in their place, and cells were made; this is how their words were touched.
pub record TouchesCells (old : Heap) (gone came made : List Cell) (touch : ℕ → Touch) : Type 0 where
  pub from : ℕ
  pub to : ℕ
  pub beside : TouchesBeside (eden_start old.space) from to gone came touch
  pub of_made : TouchesMade old from to made touch

-- Where cells of a heap change, and their words were touched so, the list stays right.
abbrev pub ChangesStayRemembered : Type 0
ChangesStayRemembered =
    (old new : Heap) (gone came made : List Cell) (were are : List ℕ) (touch : ℕ → Touch) → Whole old
    → HasRows new → CellsChange old new gone came made
    → Records (eden_start old.space) old.words new.words were are touch
    → TouchesCells old gone came made touch → AreRemembered old were → AreRemembered new are
