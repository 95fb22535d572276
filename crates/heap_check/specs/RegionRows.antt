-- The used rows of the regions of cells, by their first addresses.
use Rattle.std.specs.Prelude.{◌≡◌, ℕ, ◌+◌, ◌≤◌, ◌<◌, true, false, ◌↔◌, List, Some}
use Rattle.std.specs.Prelude.{slice_get}
use Rattle.heap_model.specs.Types.{Region}
use Rattle.page_space.specs.declared.region.Region.TheVariants.{Eden, Segment}
use Rattle.page_space.specs.Sizes.{AreWithin}
use Rattle.page_space.specs.Extents.{Extent}
use Rattle.heap_model.specs.Heaps.{Heap, Row, EndsUsed, survivors_in}
use Rattle.heap_model.specs.Heaps.{AreRows, survivors_of}
use Rattle.heap_model.specs.RegionRows.{StandsBetween, IsRowFrom}
use Rattle.heap_check.specs.declared.region_rows.Bound.{Bound}
use Rattle.heap_check.specs.Walks.{Stops}

-- eden has as many words as are used of it
abbrev pub IsFew : Heap → Type 0
IsFew heap = heap.used ≤ heap.space.sizes.young

-- how far the row of a region may go, by its kind
abbrev pub bound_in : Region → ℕ → ℕ → ℕ → Bound
bound_in Eden start end used = record { limit = start + used; blank = false }
bound_in (Segment half worker) start end used = record { limit = end; blank = true }
bound_in _ start end used = record { limit = end; blank = false }

-- the used row of the region ends exactly where a walk within the bound may end
pub record IsBoundOf (heap : Heap) (extent : Extent) (bound : Bound) : Type 0 where
  pub from : extent.start ≤ bound.limit
  pub within : bound.limit ≤ extent.start + extent.words
  pub ends : (end : ℕ) → EndsUsed heap extent end extent.region ↔ ((end ≤ bound.limit) × Stops heap bound end)

-- so it is of the region that stands there, by its kind, and the sizes of the heap are within their limits
pub record BoundsFrom (heap : Heap) (start end : ℕ) (bound : Bound) : Type 0 where
  pub limits : AreWithin heap.space.sizes heap.space.variables
  pub stands : StandsBetween heap.space start end
  pub by_kind : bound ≡ bound_in stands.extent.region start end heap.used
  pub bounds : IsBoundOf heap stands.extent bound

-- the used row of the region that begins at the address ends there
pub record UsedRowEndsAt (heap : Heap) (start end : ℕ) : Type 0 where
  pub row : Row
  pub is : IsRowFrom heap start row
  pub ends : row.end ≡ end

-- how many words of survivors a row of so many words has, by its region
abbrev pub survivors_by : Region → ℕ → ℕ
survivors_by (Segment half worker) words = words
survivors_by _ words = 0

-- the used row of the region that begins at the address has so many words of survivors
pub record CountsRowAt (heap : Heap) (start count : ℕ) : Type 0 where
  pub row : Row
  pub is : IsRowFrom heap start row
  pub counts : survivors_in row row.extent.region ≡ count

-- the rows of the heap have so many words of survivors
pub record CountsRows (heap : Heap) (count : ℕ) : Type 0 where
  pub rows : List Row
  pub are : AreRows heap rows
  pub counted : survivors_of rows ≡ count

-- the words from an address to another are 0
abbrev pub IsZeroBetween : Heap → ℕ → ℕ → Type 0
IsZeroBetween heap from end = (at : ℕ) → from ≤ at → at < end → slice_get heap.words at ≡ Some 0
