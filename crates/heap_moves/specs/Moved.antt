-- A heap whose cells were moved: each cell that stays stands somewhere, and what referred to it refers to that.
use Rattle.std.specs.Prelude.{◌≡◌, ◌≢◌, ℕ, ◌+◌, ◌^◌, ◌<◌, ◌↔◌, List, length, Option, Some, Contains, slice_get, IsTrue}
use Rattle.tagged_word.specs.Cells.{scavenge_offsets, is_free_kind}
use Rattle.heap_model.specs.Types.{Cell}
use Rattle.handle_roots.specs.Roots.{root_at}
use Rattle.heap_model.specs.Heaps.{Heap, HasCell}
use Rattle.heap_model.specs.Slots.{reference_word}
use Rattle.heap_model.specs.Kinds.{HasWord, HasNoNumber}
use Rattle.heap_model.specs.Wholeness.{HasSizes, HasRows}

-- The word is moved, where `to` tells at which address what stood at another stands afterwards, if it stays. A
-- reference is to what stays, and has become one to where that stands. A word that is no reference is as it was.
pub data IsMovedWord (to : ℕ → Option ℕ) (old new : ℕ) : Type 0 where
  reference : (at now : ℕ) → old ≡ reference_word at → to at ≡ Some now → new ≡ reference_word now
      → IsMovedWord to old new
  other : ((at : ℕ) → old ≢ reference_word at) → new ≡ old → IsMovedWord to old new

-- The words of a cell that stays: there are as many, each slot that a scavenge visits is moved, and any other word is
-- as it was.
pub record AreMoved (to : ℕ → Option ℕ) (cell : Cell) (words others : List ℕ) : Type 0 where
  pub long : length others ≡ length words
  pub slots : (offset word now : ℕ) → Contains (scavenge_offsets cell.layout cell.length) offset
      → HasWord words offset word → HasWord others offset now → IsMovedWord to word now
  pub raw : (offset : ℕ) → (Contains (scavenge_offsets cell.layout cell.length) offset → ⊥)
      → slice_get others offset ≡ slice_get words offset

-- the cell at another address: its header, its layout, its length and its size are the same
abbrev pub moved_to : Cell → ℕ → Cell
moved_to cell now = record cell { at = now }

-- the cell stands at the address in the new heap, and its words are moved
pub record StandsMoved (new : Heap) (to : ℕ → Option ℕ) (cell : Cell) (words : List ℕ) (now : ℕ) : Type 0 where
  pub others : List ℕ
  pub has : HasCell new (moved_to cell now) others
  pub are : AreMoved to cell words others

-- Where a cell of the new heap is from: it stood in the old one, and came here; or it is free and has no number.
pub data IsFrom (old : Heap) (to : ℕ → Option ℕ) (cell : Cell) : Type 0 where
  stood : (was : Cell) (words : List ℕ) → HasCell old was words → to was.at ≡ Some cell.at → IsFrom old to cell
  free : IsTrue (is_free_kind cell.layout.kind) → HasNoNumber cell → IsFrom old to cell

-- the first root word of the variable is moved, and the second one is as it was
pub record IsMovedRoot (old new : Heap) (to : ℕ → Option ℕ) (variable : ℕ) : Type 0 where
  pub first : (word now : ℕ) → slice_get old.words (root_at old.space variable) ≡ Some word
      → slice_get new.words (root_at old.space variable) ≡ Some now → IsMovedWord to word now
  pub second : slice_get new.words (root_at old.space variable + 1)
      ≡ slice_get old.words (root_at old.space variable + 1)

-- The new heap is the old one moved: regions and paths are the same, sizes and rows are right, no two cells come to one
-- address, and an address has 32 bits exactly where that of what came there had. Each cell that stays stands where it
-- came. Each cell of the new heap is from one that stays, or is free and has no number. The roots are moved.
pub record IsMoved (old new : Heap) (to : ℕ → Option ℕ) : Type 0 where
  pub space : new.space ≡ old.space
  pub paths : new.paths ≡ old.paths
  pub sized : HasSizes new
  pub rows : HasRows new
  pub apart : (one other : Cell) (words others : List ℕ) (now : ℕ) → HasCell old one words → HasCell old other others
      → to one.at ≡ Some now → to other.at ≡ Some now → one.at ≡ other.at
  pub fits : (cell : Cell) (words : List ℕ) (now : ℕ) → HasCell old cell words → to cell.at ≡ Some now
      → (cell.at < 2 ^ 32) ↔ (now < 2 ^ 32)
  pub stands : (cell : Cell) (words : List ℕ) (now : ℕ) → HasCell old cell words → to cell.at ≡ Some now
      → StandsMoved new to cell words now
  pub back : (cell : Cell) (words : List ℕ) → HasCell new cell words → IsFrom old to cell
  pub roots : (variable : ℕ) → variable < old.space.variables → IsMovedRoot old new to variable
