-- Changes that make cells in eden alone, behind its used words, and how the cells of a heap change by them.
use Rattle.std.proofs.Common.{◌≡◌, ◌≢◌, ℕ, ◌+◌, ◌≤◌, ◌<◌, ◌⊎◌, List, ◌++◌, Contains, All, slice_get}
use Rattle.page_space.specs.Extents.{eden_start, roots_start, layouts_start}
use Rattle.cell_layout.specs.Cells.{IsRow}
use Rattle.heap_model.specs.Types.{Path, Cell}
use Rattle.heap_model.specs.Heaps.{Heap, HasCell, words_of_cell}
use Rattle.heap_model.specs.Wholeness.{HasSizes}
use Rattle.heap_model.specs.Changes.{Patch, IsPatch, IsPatched, PatchesDisjoint, BeginsInOneOf}

-- the address is behind the used words of eden in the old heap, and among them in the new one
pub record IsBehindUsed (old new : Heap) (at : ℕ) : Type 0 where
  pub from : eden_start old.space + old.used ≤ at
  pub below : at < eden_start old.space + new.used

-- Only words of the patches have changed, words of eden that were not used before, and layout words of shapes that are
-- new. Cells were made that stand in the newly used words of eden.
pub record EdenChange (old new : Heap) (patches : List Patch) (made : List Cell) : Type 0 where
  pub same_space : new.space ≡ old.space
  pub same_survivors : new.survivors ≡ old.survivors
  pub grown : old.used ≤ new.used
  pub room : new.survivors + new.used ≤ new.space.sizes.young
  pub more : List Path
  pub paths : new.paths ≡ old.paths ++ more
  pub sized : HasSizes new
  pub each : All (IsPatch old new) patches
  pub apart : PatchesDisjoint patches
  pub made_stand : IsRow new.space new.words (eden_start old.space + old.used) (eden_start old.space + new.used) made
  pub cells_stay : (at : ℕ) → at < roots_start old.space → (All (λ patch. IsPatched at patch → ⊥) patches)
      → (IsBehindUsed old new at → ⊥) → slice_get new.words at ≡ slice_get old.words at
  pub roots_stay : (at : ℕ) → roots_start old.space ≤ at → at < layouts_start old.space
      → slice_get new.words at ≡ slice_get old.words at

-- The cells of the new heap after such a change: those that went are replaced by those that came, and all others stand
-- as before. Those that were made stand where no cell began.
pub record EdenCellsChange (old new : Heap) (gone came made : List Cell) : Type 0 where
  pub went : (cell : Cell) → Contains gone cell → HasCell old cell (words_of_cell old cell)
  pub comes : (cell : Cell) → Contains (came ++ made) cell → HasCell new cell (words_of_cell new cell)
  pub kept : (cell : Cell) (words : List ℕ) → HasCell old cell words → (Contains gone cell → ⊥)
      → HasCell new cell words
  pub back : (cell : Cell) (words : List ℕ) → HasCell new cell words
      → Contains (came ++ made) cell ⊎ (HasCell old cell words × (Contains gone cell → ⊥))
  pub in_place : (cell : Cell) → Contains came cell → BeginsInOneOf gone cell
  pub newly : (cell : Cell) → Contains made cell → IsBehindUsed old new cell.at
  pub new_places : (cell other : Cell) (words : List ℕ) → Contains made cell → HasCell old other words
      → other.at ≢ cell.at
