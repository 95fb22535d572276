-- Where the used row of a region ends.
use Rattle.std.specs.Prelude.{◌≡◌, ℕ, ◌≤◌, ◌⊎◌, List, Some, slice_get}
use Rattle.page_space.specs.declared.region.Region.TheVariants.{Segment}
use Rattle.heap_model.specs.Heaps.{Heap, Row}
use Rattle.heap_model.specs.RegionRows.{IsRowFrom}

-- the used row of the region that begins at an address ends there
abbrev pub EndsRow : Heap → ℕ → ℕ → Type 0
EndsRow heap start end = (row : Row) → IsRowFrom heap start row → row.end ≡ end

-- A row that ends at an address ends by the limit: there, or before it, where a word is 0.
pub record EndsBy (words : List ℕ) (limit row_end : ℕ) : Type 0 where
  pub within : row_end ≤ limit
  pub stops : (row_end ≡ limit) ⊎ (slice_get words row_end ≡ Some 0)

-- By such a limit ends the used row of the region that stands between two addresses; if that is no segment, there.
pub record IsLimit (heap : Heap) (start end limit : ℕ) : Type 0 where
  pub within : limit ≤ end
  pub ends : (row : Row) → IsRowFrom heap start row → EndsBy heap.words limit row.end
  pub exact : (row : Row) → IsRowFrom heap start row
      → ((half worker : ℕ) → row.extent.region ≡ Segment half worker → ⊥) → row.end ≡ limit
