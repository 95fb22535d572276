-- The words of an object: those of its own cells.
use Rattle.std.specs.Prelude.{◌≡◌, ℕ, ◌<◌, ◌≤◌, ◌⊎◌, slice_get}
use Rattle.page_space.specs.Extents.{layouts_start}
use Rattle.heap_model.specs.Types.{Cell}
use Rattle.heap_model.specs.Heaps.{Heap, HasCell, words_of_cell}
use Rattle.heap_model.specs.Wholeness.{NamesFrom}
use Rattle.object_cells.specs.CellWrites.{IsInCell}

-- The word belongs to the object at the address: it is in its cell, or in a store, a weak table or a box that one of
-- its slots names.
pub record IsOwnWord (heap : Heap) (at word : ℕ) : Type 0 where
  pub owner : Cell
  pub has : HasCell heap owner (words_of_cell heap owner)
  pub stands : owner.at ≡ at
  pub cell : Cell
  pub there : HasCell heap cell (words_of_cell heap cell)
  pub own : (cell ≡ owner) ⊎ ((slot : ℕ) × NamesFrom heap owner slot cell.at)
  pub within : IsInCell word cell

-- Before the layout words, only words of the object at the address have changed, and those from an address up to
-- another.
abbrev pub ChangesOwnWords : Heap → Heap → (from to at : ℕ) → Type 0
ChangesOwnWords old new from to at =
    (word : ℕ) → word < layouts_start old.space → (IsOwnWord old at word → ⊥) → (from ≤ word → word < to → ⊥)
    → slice_get new.words word ≡ slice_get old.words word
