-- How the words of an image are put: stretch by stretch, and region by region.
use Rattle.std.specs.Prelude.{◌≡◌, ℕ, ◌<◌, ◌≤◌, ◌⊎◌, List, length, Some, slice_get}
use Rattle.heap_model.specs.Heaps.{Heap}
use Rattle.heap_walk.specs.Limits.{EndsRow}
use Rattle.collector.specs.Images.{IsOfSomeCell}

-- the words from an address to another have become those of a source, and no other has changed
pub record CopiesWithin (source old new : List ℕ) (from to : ℕ) : Type 0 where
  pub count : length new ≡ length old
  pub there : (at : ℕ) → from ≤ at → at < to → slice_get new at ≡ slice_get source at
  pub others : (at : ℕ) → (at < from) ⊎ (to ≤ at) → slice_get new at ≡ slice_get old at

-- the words from an address to another have become 0, and no other has changed
pub record BlanksWithin (old new : List ℕ) (from to : ℕ) : Type 0 where
  pub count : length new ≡ length old
  pub there : (at : ℕ) → from ≤ at → at < to → slice_get new at ≡ Some 0
  pub others : (at : ℕ) → (at < from) ⊎ (to ≤ at) → slice_get new at ≡ slice_get old at

-- the words after the used row of the region between two addresses have become 0, and no other has changed
pub record BlanksBehind (heap : Heap) (new : List ℕ) (start end : ℕ) : Type 0 where
  pub row_end : ℕ
  pub ends : EndsRow heap start row_end
  pub blanks : BlanksWithin heap.words new row_end end

-- From an address to another the words are those of an image: the heap's where a cell stands, and else 0.
pub record AreCellsWithin (heap : Heap) (words : List ℕ) (from to : ℕ) : Type 0 where
  pub cells : (at : ℕ) → from ≤ at → at < to → IsOfSomeCell heap (λ cell. Unit {0}) at
      → slice_get words at ≡ slice_get heap.words at
  pub rest : (at : ℕ) → from ≤ at → at < to → (IsOfSomeCell heap (λ cell. Unit {0}) at → ⊥)
      → slice_get words at ≡ Some 0

-- and no word beside these has changed
pub record FillsWithin (heap : Heap) (old new : List ℕ) (from to : ℕ) : Type 0 where
  pub count : length new ≡ length old
  pub filled : AreCellsWithin heap new from to
  pub others : (at : ℕ) → (at < from) ⊎ (to ≤ at) → slice_get new at ≡ slice_get old at
