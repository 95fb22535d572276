-- The parts of a move: cell by cell, word by word, root by root.
use Rattle.std.specs.Prelude.{◌≡◌, ℕ, ◌+◌, ◌^◌, ◌<◌, ◌≤◌, ◌↔◌, List, Option, Some, Contains, slice_get, IsTrue}
use Rattle.tagged_word.specs.Cells.{scavenge_offsets, is_free_kind}
use Rattle.heap_model.specs.Types.{Cell}
use Rattle.heap_model.specs.Heaps.{Heap, words_of_cell}
use Rattle.heap_model.specs.Kinds.{HasNoNumber}
use Rattle.heap_model.specs.Wholeness.{HasSizes, HasRows}
use Rattle.heap_moves.specs.Moved.{IsMovedWord, moved_to, StandsMoved, IsFrom, IsMovedRoot}
use Rattle.image_walk.specs.Spans.{StandsIn}

-- the regions and the paths are the same, and sizes and rows of the new heap are right
pub record HasSameFrame (old new : Heap) : Type 0 where
  pub space : new.space ≡ old.space
  pub paths : new.paths ≡ old.paths
  pub sized : HasSizes new
  pub rows : HasRows new

-- the word at a place of some words is moved to that of others, where both have one there
abbrev pub IsMovedThere : (ℕ → Option ℕ) → List ℕ → List ℕ → ℕ → Type 0
IsMovedThere to words others at =
    (word now : ℕ) → slice_get words at ≡ Some word → slice_get others at ≡ Some now → IsMovedWord to word now

-- the word of a cell at the offset is moved, if it is a slot, and else as it was
pub record IsMovedAt (to : ℕ → Option ℕ) (cell : Cell) (words others : List ℕ) (offset : ℕ) : Type 0 where
  pub slot : Contains (scavenge_offsets cell.layout cell.length) offset → IsMovedThere to words others offset
  pub raw : (Contains (scavenge_offsets cell.layout cell.length) offset → ⊥)
      → slice_get others offset ≡ slice_get words offset

-- the other cell is this one, but for its address
abbrev pub IsAlike : Cell → Cell → Type 0
IsAlike cell other = other ≡ moved_to cell other.at

-- no cell that stands at an address or behind it comes to another
abbrev pub HasNoComerFrom : Heap → (ℕ → Option ℕ) → ℕ → ℕ → Type 0
HasNoComerFrom heap to now from = (cell : Cell) → StandsIn heap cell → from ≤ cell.at → to cell.at ≡ Some now → ⊥

-- the cell stands at an address or behind it, and comes to another
pub record IsComer (heap : Heap) (to : ℕ → Option ℕ) (now from : ℕ) (cell : Cell) : Type 0 where
  pub stands : StandsIn heap cell
  pub reached : from ≤ cell.at
  pub comes : to cell.at ≡ Some now

-- the cell comes to the address, no cell behind it does, and there it stands, moved
pub record ComesTo (old new : Heap) (to : ℕ → Option ℕ) (cell : Cell) (now : ℕ) : Type 0 where
  pub fits : (cell.at < 2 ^ 32) ↔ (now < 2 ^ 32)
  pub stands : StandsMoved new to cell (words_of_cell old cell) now
  pub alone : HasNoComerFrom old to now (cell.at + cell.size)

-- so it is where the cell stays
abbrev pub IsMovedCell : Heap → Heap → (ℕ → Option ℕ) → Cell → Type 0
IsMovedCell old new to cell = (now : ℕ) → to cell.at ≡ Some now → ComesTo old new to cell now

-- so it is of each cell
abbrev pub AreMovedCells : Heap → Heap → (ℕ → Option ℕ) → Type 0
AreMovedCells old new to = (cell : Cell) → StandsIn old cell → IsMovedCell old new to cell

-- the cell is free and has no number
pub record IsUnused (cell : Cell) : Type 0 where
  pub free : IsTrue (is_free_kind cell.layout.kind)
  pub no_number : HasNoNumber cell

-- each cell of the new heap is from one of the old heap, or is free and has no number
abbrev pub AreFrom : Heap → Heap → (ℕ → Option ℕ) → Type 0
AreFrom old new to = (cell : Cell) → StandsIn new cell → IsFrom old to cell

-- the root words of each variable are moved
abbrev pub AreMovedRoots : Heap → Heap → (ℕ → Option ℕ) → Type 0
AreMovedRoots old new to = (variable : ℕ) → variable < old.space.variables → IsMovedRoot old new to variable
