-- Flags of stores, tables and boxes: to which of them slot 1 of an object refers, and which are named.
use Rattle.std.specs.Prelude.{◌≡◌, ◌≢◌, ℕ, ◌<◌, ◌⊎◌, Bool, true, List, length, Some, slice_get, IsTrue}
use Rattle.heap_model.specs.Types.{Cell}
use Rattle.heap_model.specs.Heaps.{Heap}
use Rattle.heap_model.specs.Slots.{is_object_kind, RefersTo}
use Rattle.heap_model.specs.Wholeness.{NamesFrom, IsOwnedKind}
use Rattle.image_walk.specs.Naming.{IsNextTo}
use Rattle.image_walk.specs.Spans.{StandsIn}

-- the flag at an address is set, and all others are as they were
pub record SetsFlag (old new : List Bool) (at : ℕ) : Type 0 where
  pub as_many : length new ≡ length old
  pub here : slice_get new at ≡ Some true
  pub others : (other : ℕ) → other ≢ at → slice_get new other ≡ slice_get old other

-- slot 1 of the cell, which is an object's, refers to the cell at the address
pub record IsBesideOf (heap : Heap) (object : Cell) (at : ℕ) : Type 0 where
  pub is : IsTrue (is_object_kind object.layout.kind)
  pub other : Cell
  pub next_to : IsNextTo heap object other
  pub place : other.at ≡ at

-- slot 1 of some object whose cell begins before an address refers to the cell at the address
pub record IsBesideBefore (heap : Heap) (to at : ℕ) : Type 0 where
  pub object : Cell
  pub stands : StandsIn heap object
  pub before : object.at < to
  pub is : IsBesideOf heap object at

-- there is a flag for each word, and it is set exactly at the cells to which slot 1 of an object before an address
-- refers
pub record MarksBesideBefore (heap : Heap) (to : ℕ) (flags : List Bool) : Type 0 where
  pub as_many : length flags ≡ length heap.words
  pub only : (at : ℕ) → slice_get flags at ≡ Some true → IsBesideBefore heap to at
  pub each : (at : ℕ) → IsBesideBefore heap to at → slice_get flags at ≡ Some true

-- slot 1 of some object refers to the cell at the address
pub record IsBesideSome (heap : Heap) (at : ℕ) : Type 0 where
  pub object : Cell
  pub stands : StandsIn heap object
  pub is : IsBesideOf heap object at

-- there is a flag for each word, and it is set exactly at the cells to which slot 1 of an object refers
pub record MarksBeside (heap : Heap) (flags : List Bool) : Type 0 where
  pub as_many : length flags ≡ length heap.words
  pub only : (at : ℕ) → slice_get flags at ≡ Some true → IsBesideSome heap at
  pub each : (at : ℕ) → IsBesideSome heap at → slice_get flags at ≡ Some true

-- the flags are set at the addresses of which this holds, and all others are as they were
pub record MarksAt (P : ℕ → Type 0) (old new : List Bool) : Type 0 where
  pub as_many : length new ≡ length old
  pub only : (at : ℕ) → slice_get new at ≡ Some true → (slice_get old at ≡ Some true) ⊎ P at
  pub kept : (at : ℕ) → slice_get old at ≡ Some true → slice_get new at ≡ Some true
  pub set : (at : ℕ) → P at → slice_get new at ≡ Some true

-- the slots of a cell name something: it is an object's, or the one to which slot 1 of an object refers
pub data IsNamer (heap : Heap) (cell : Cell) : Type 0 where
  object : IsTrue (is_object_kind cell.layout.kind) → IsNamer heap cell
  beside : IsBesideSome heap cell.at → IsNamer heap cell

-- some slot below an address names the cell at another
pub record IsNamedBelow (heap : Heap) (to named : ℕ) : Type 0 where
  pub owner : Cell
  pub slot : ℕ
  pub names : NamesFrom heap owner slot named
  pub below : slot < to

-- the flags are set exactly at what slots below an address name, and no two of these slots name one cell
pub record NamesBelow (heap : Heap) (to : ℕ) (flags : List Bool) : Type 0 where
  pub as_many : length flags ≡ length heap.words
  pub only : (named : ℕ) → slice_get flags named ≡ Some true → IsNamedBelow heap to named
  pub each : (named : ℕ) → IsNamedBelow heap to named → slice_get flags named ≡ Some true
  pub once : (owner another : Cell) (slot other named : ℕ) → NamesFrom heap owner slot named
      → NamesFrom heap another other named → slot < to → other < to → slot ≡ other

-- the word refers to the store, the table or the box at an address
pub record IsOwnedAt (heap : Heap) (word named : ℕ) : Type 0 where
  pub cell : Cell
  pub words : List ℕ
  pub refers : RefersTo heap word cell words
  pub owned : IsOwnedKind cell.layout.kind
  pub at : cell.at ≡ named

-- the word refers to a store, a table or a box whose flag is set
pub record IsNamedAgain (heap : Heap) (word : ℕ) (flags : List Bool) : Type 0 where
  pub named : ℕ
  pub is : IsOwnedAt heap word named
  pub flag : slice_get flags named ≡ Some true

-- the flag of the store, the table or the box to which the word refers was not set and is now, if it refers to one; all
-- others are as they were
pub record MarksName (heap : Heap) (word : ℕ) (old new : List Bool) : Type 0 where
  pub marks : MarksAt (IsOwnedAt heap word) old new
  pub fresh : (at : ℕ) → IsOwnedAt heap word at → slice_get old at ≡ Some true → ⊥
