-- Which words are covered: the cells that they refer to can't be lost in this cycle.
use Rattle.std.specs.Prelude.{◌≢◌, ℕ, ◌+◌, ◌⊎◌, All, Any, Contains, slice_index, Option, IfSome}
use Rattle.tagged_word.specs.declared.reading.Reading.{Reading}
use Rattle.mark_world.specs.declared.world.World.{World}
use Rattle.mark_world.specs.Pages.{OfTarget, cell_at, slots_of}
use Rattle.mark_world.specs.Steps.{white}

-- the cell of a page at an address of a world
abbrev pub cell_of : World → ℕ → Option Reading
cell_of world at = cell_at world.old world.words world.layouts at

-- the colour of a cell
abbrev pub colour_of : World → ℕ → ℕ
colour_of world at = slice_index world.colours at

-- some helper is to visit the cell
abbrev pub IsToVisit : World → ℕ → Type 0
IsToVisit world at = Any (λ view. Contains view.visit at) world.helpers

-- a cell is covered: it is not white, or the mutator owes it, or a helper is to visit it
abbrev pub IsCovered : World → ℕ → Type 0
IsCovered world at = (colour_of world at ≢ white) ⊎ Contains world.main.owed at ⊎ IsToVisit world at

-- a word is covered: it has no target, or that is covered
abbrev pub HasCovered : World → ℕ → Type 0
HasCovered world word = OfTarget world.old word (IsCovered world)

-- this holds of each tagged slot of the cell at an address, by its offset and its word
abbrev pub EachSlot : World → ℕ → (ℕ → ℕ → Type 0) → Type 0
EachSlot world at P =
    IfSome (cell_of world at) (λ cell. All (λ offset. P offset (slice_index world.words (at + offset))) (slots_of cell))
