-- The places of an object, in order of their addresses.
use Rattle.std.specs.Prelude.{◌≡◌, ℕ, ◌+◌, ◌≤◌, ◌<◌, IsTrue}
use Rattle.heap_model.specs.Types.{Cell}
use Rattle.heap_model.specs.Heaps.{Heap}
use Rattle.tagged_word.specs.Cells.{is_object_kind}
use Rattle.heap_model.specs.Slots.{IsPlace}
use Rattle.image_walk.specs.Spans.{StandsIn}
use Rattle.image_walk.specs.NextCell.{IsBoundary}

-- the cell is an object's own and carries the number
pub record IsOf (cell : Cell) (number : ℕ) : Type 0 where
  pub object : IsTrue (is_object_kind cell.layout.kind)
  pub carries : cell.header.object ≡ number

-- no cell of the object stands at the address or behind it
abbrev pub HasNoPlaceFrom : Heap → ℕ → ℕ → Type 0
HasNoPlaceFrom heap number from = (cell : Cell) → StandsIn heap cell → from ≤ cell.at → IsOf cell number → ⊥

-- The cell is the first of the object that stands at the address or behind it. The walk goes on behind it.
pub record IsFirstPlace (heap : Heap) (number from : ℕ) (cell : Cell) : Type 0 where
  pub stands : StandsIn heap cell
  pub is : IsOf cell number
  pub reached : from ≤ cell.at
  pub first : (other : Cell) → StandsIn heap other → from ≤ other.at → IsOf other number → cell.at ≤ other.at
  pub onward : IsBoundary heap (cell.at + cell.size)

-- the cell is at a place of the object, and the object has no second
pub record IsOnlyPlace (heap : Heap) (number : ℕ) (cell : Cell) : Type 0 where
  pub stands : StandsIn heap cell
  pub is : IsOf cell number
  pub once : (at : ℕ) → IsPlace heap number at → at ≡ cell.at

-- the object has no place, or more than one
abbrev pub HasNoOnlyPlace : Heap → ℕ → Type 0
HasNoOnlyPlace heap number = (cell : Cell) → IsOnlyPlace heap number cell → ⊥

-- the cell carries the number of one of so many objects, if it is an object's own
abbrev pub HasMadeNumber : Cell → ℕ → Type 0
HasMadeNumber cell count = IsTrue (is_object_kind cell.layout.kind) → cell.header.object < count

-- each object's cell carries the number of one of so many objects
abbrev pub AreMade : Heap → ℕ → Type 0
AreMade heap count = (number at : ℕ) → IsPlace heap number at → number < count
