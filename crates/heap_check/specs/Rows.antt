-- The search for the first flaw of rows: steps of a walk, one region, and all of them.
use Rattle.std.specs.Prelude.{◌≡◌, ◌≢◌, ℕ, ◌+◌, ◌≤◌, ◌<◌, Bool, List, Some, slice_get}
use Rattle.std.specs.List.{flat_map}
use Rattle.heap_model.specs.Types.{Cell}
use Rattle.heap_model.specs.Heaps.{Heap, Row, AreRows, IsUsedRow, survivors_of, cell_extents}
use Rattle.heap_model.specs.Wholeness.{Blank}
use Rattle.page_space.specs.Extents.{Extent}
use Rattle.std.specs.List.{Contains}
use Rattle.heap_check.specs.declared.region_rows.Bound.{Bound}
use Rattle.heap_check.specs.Walks.{Stops, WalkContinues}
use Rattle.heap_check.specs.declared.rows.Step.{Step}
use Rattle.heap_check.specs.declared.rows.Step.TheVariants.{Ended, Found, Broken}
use Rattle.heap_check.specs.Frames.{BreaksOff, filler_word}
use Rattle.heap_check.specs.Marks.{MarksCells}

-- at an address that is no end of the row no cell stands that ends within the bound
pub record IsBroken (heap : Heap) (bound : Bound) (at : ℕ) : Type 0 where
  pub before : at < bound.limit
  pub no_end : Stops heap bound at → ⊥
  pub no_cell : (cell : Cell) → WalkContinues heap bound at cell → ⊥

-- what a walk comes to at an address
abbrev pub IsStepFrom : Heap → Bound → ℕ → Step → Type 0
IsStepFrom heap bound at Ended = Stops heap bound at
IsStepFrom heap bound at (Found cell) = WalkContinues heap bound at cell
IsStepFrom heap bound at Broken = IsBroken heap bound at

-- a word from an address to another is not 0
pub data BreaksBlank (heap : Heap) (from end : ℕ) : ℕ → ℕ → ℕ → Type 0 where
  word : (at found : ℕ) → from ≤ at → at < end → slice_get heap.words at ≡ Some found → found ≢ 0
      → BreaksBlank heap from end at found 0

-- the row of the region that begins at an address breaks off, or a word behind it is not 0
pub data BreaksRegion (heap : Heap) (start : ℕ) : ℕ → ℕ → ℕ → Type 0 where
  broken : (extent : Extent) (at found : ℕ) → extent.start ≡ start → BreaksOff heap extent at
      → slice_get heap.words at ≡ Some found → BreaksRegion heap start at found filler_word
  not_blank : (row : Row) (at found : ℕ) → row.extent.start ≡ start → Contains (cell_extents heap.space) row.extent
      → IsUsedRow heap row → row.end ≤ at → at < row.extent.start + row.extent.words
      → slice_get heap.words at ≡ Some found → found ≢ 0
      → BreaksRegion heap start at found 0

-- all regions have used rows with 0 behind them, their survivors have so many words, and the flags of all cells were
-- set
pub record MarksRows (heap : Heap) (survivors : ℕ) (old new : List Bool) : Type 0 where
  pub rows : List Row
  pub are : AreRows heap rows
  pub counted : survivors_of rows ≡ survivors
  pub blank : Blank heap
  pub marks : MarksCells old new (flat_map (λ row. row.cells) rows)
