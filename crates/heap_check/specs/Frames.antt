-- What breaks the frame of a heap: its sizes, its rows of cells, and its roots.
use Rattle.std.specs.Prelude.{◌≡◌, ◌≢◌, ℕ, ◌+◌, ◌-◌, ◌≤◌, ◌<◌, List, Contains, Some, length, slice_get}
use Rattle.tagged_word.specs.declared.word.Class.TheVariants.{Odd}
use Rattle.tagged_word.specs.Words.{bits_of}
use Rattle.tagged_word.specs.Odds.{unbound_code}
use Rattle.tagged_word.specs.Shapes.{shapes_most, filler_shape}
use Rattle.tagged_word.specs.Headers.{header_bits}
use Rattle.page_space.specs.Extents.{Extent, layouts_start, marks_start, words_count}
use Rattle.cell_layout.specs.Cells.{IsRow}
use Rattle.shape_tree.specs.ShapeLayouts.{layout_word}
use Rattle.handle_roots.specs.Roots.{root_at}
use Rattle.heap_model.specs.Types.{Cell}
use Rattle.heap_model.specs.Heaps.{Heap, Row, AreRows, IsUsedRow, survivors_of, cell_extents}
use Rattle.heap_check.specs.declared.region_rows.Bound.{Bound}
use Rattle.heap_check.specs.RegionRows.{bound_in}
use Rattle.heap_check.specs.Roots.{IsRootOf}
use Rattle.heap_check.specs.Walks.{Stops, WalkContinues}

-- Two fields of an image and the number of its words are no words of it: what is wrong with them is told behind the
-- last word of a heap.
abbrev pub beside_words : Heap → ℕ
beside_words heap = words_count heap.space

-- more words of eden are used than it has
pub data BreaksUsed (heap : Heap) : ℕ → ℕ → ℕ → Type 0 where
  used : heap.space.sizes.young < heap.used → BreaksUsed heap (beside_words heap) heap.used heap.space.sizes.young

-- there are more or fewer words than the regions before the marks have
pub data BreaksLength (heap : Heap) : ℕ → ℕ → ℕ → Type 0 where
  words : length heap.words ≢ marks_start heap.space
      → BreaksLength heap (beside_words heap) (length heap.words) (marks_start heap.space)

-- the layout word of a shape is not its own
pub data BreaksLayout (heap : Heap) (shape : ℕ) : ℕ → ℕ → ℕ → Type 0 where
  layout : (found : ℕ) → slice_get heap.words (layouts_start heap.space + shape) ≡ Some found
      → found ≢ layout_word heap.paths shape
      → BreaksLayout heap shape (layouts_start heap.space + shape) found (layout_word heap.paths shape)

-- so it is for some shape
pub data BreaksLayouts (heap : Heap) : ℕ → ℕ → ℕ → Type 0 where
  layout : (shape at found wanted : ℕ) → shape < shapes_most → BreaksLayout heap shape at found wanted
      → BreaksLayouts heap at found wanted

-- the header of a filler that no object has
abbrev pub filler_word : ℕ
filler_word = header_bits (record { shape = filler_shape; object = 0 })

-- how far the row of a region may go
abbrev pub bound_of : Heap → Extent → Bound
bound_of heap extent = bound_in extent.region extent.start (extent.start + extent.words) heap.used

-- The row of a region breaks off at an address: cells stand one behind another up to it, the row may not end there yet,
-- and no cell stands there that ends within the region.
pub record BreaksOff (heap : Heap) (extent : Extent) (at : ℕ) : Type 0 where
  pub among : Contains (cell_extents heap.space) extent
  pub cells : List Cell
  pub row : IsRow heap.space heap.words extent.start at cells
  pub before : at < (bound_of heap extent).limit
  pub no_end : Stops heap (bound_of heap extent) at → ⊥
  pub no_cell : (cell : Cell) → WalkContinues heap (bound_of heap extent) at cell → ⊥

-- A row breaks off, and a filler is asked for there; or a word behind a row is not 0.
pub data BreaksRows (heap : Heap) : ℕ → ℕ → ℕ → Type 0 where
  broken : (extent : Extent) (at found : ℕ) → BreaksOff heap extent at → slice_get heap.words at ≡ Some found
      → BreaksRows heap at found filler_word
  not_blank : (row : Row) (at found : ℕ) → Contains (cell_extents heap.space) row.extent → IsUsedRow heap row
      → row.end ≤ at → at < row.extent.start + row.extent.words → slice_get heap.words at ≡ Some found → found ≢ 0
      → BreaksRows heap at found 0

-- The survivors have another number of words than the image tells; or so many that the young generation lacks them.
pub data BreaksSurvivors (heap : Heap) : ℕ → ℕ → ℕ → Type 0 where
  counted : (rows : List Row) → AreRows heap rows → survivors_of rows ≢ heap.survivors
      → BreaksSurvivors heap (beside_words heap) heap.survivors (survivors_of rows)
  many : (rows : List Row) → AreRows heap rows → survivors_of rows ≡ heap.survivors
      → heap.space.sizes.young < heap.survivors + heap.used
      → BreaksSurvivors heap (beside_words heap) heap.survivors (heap.space.sizes.young - heap.used)

-- the first root word of a variable that is bound to nothing
abbrev pub unbound_word : ℕ
unbound_word = bits_of (Odd unbound_code)

-- The first root word of a variable stands for nothing, beside 0 as beside the second one: nothing bound is asked for.
-- Or it stands for something beside 0, and the second one is not 0.
pub data BreaksRoot (heap : Heap) (variable : ℕ) : ℕ → ℕ → ℕ → Type 0 where
  first : (found second : ℕ) → slice_get heap.words (root_at heap.space variable) ≡ Some found
      → slice_get heap.words (root_at heap.space variable + 1) ≡ Some second
      → (IsRootOf heap found 0 → ⊥) → (IsRootOf heap found second → ⊥)
      → BreaksRoot heap variable (root_at heap.space variable) found unbound_word
  second : (first found : ℕ) → slice_get heap.words (root_at heap.space variable) ≡ Some first
      → slice_get heap.words (root_at heap.space variable + 1) ≡ Some found
      → IsRootOf heap first 0 → found ≢ 0
      → BreaksRoot heap variable (root_at heap.space variable + 1) found 0

-- so it is for some variable
pub data BreaksRoots (heap : Heap) : ℕ → ℕ → ℕ → Type 0 where
  root : (variable at found wanted : ℕ) → variable < heap.space.variables → BreaksRoot heap variable at found wanted
      → BreaksRoots heap at found wanted
