-- The cells of a heap, one after another.
use Rattle.std.proofs.Common.{◌≡◌, ℕ, ◌+◌, ◌≤◌, ◌<◌, inl, inr, List, subst}
use Rattle.std.proofs.lemmas.Bool.{cases_lt}
use Rattle.heap_model.specs.Types.{Cell}
use Rattle.heap_model.specs.Heaps.{Heap, HasCell, words_of_cell}
use Rattle.heap_model.specs.Kinds.{IsSoundCell}
use Rattle.heap_model.specs.Wholeness.{HasRows}
use Rattle.heap_model.proofs.CellsApart.{cells_apart, first_of_cell}
use Rattle.image_walk.specs.Finding.{IsFirstCell}

-- each cell that begins before the address holds what its kind has
abbrev pub SoundBefore : Heap → ℕ → Type 0
SoundBefore heap least =
    (cell : Cell) (words : List ℕ) → HasCell heap cell words → cell.at < least → IsSoundCell heap cell words

-- the words of a cell are those of the heap there
pub sound_there : (heap : Heap) (cell : Cell) (words : List ℕ) → HasCell heap cell words
    → IsSoundCell heap cell (words_of_cell heap cell) → IsSoundCell heap cell words
sound_there heap cell words has sound = subst (IsSoundCell heap cell) has.words_are sound

-- behind the first cell from an address on, the cell is passed and no other
pub sound_behind : (heap : Heap) (least : ℕ) (cell : Cell) → HasRows heap → SoundBefore heap least
    → IsFirstCell heap least cell → IsSoundCell heap cell (words_of_cell heap cell)
    → SoundBefore heap (cell.at + cell.size)
sound_behind heap least cell rows before first sound other words has below = elim (cases_lt other.at least) [
  | inl early ↦ before other words has early
  | inr late ↦
      let from : cell.at ≤ other.at = first.first other words has late in
      let same : cell ≡ other =
      cells_apart other.at rows first.has has (record { from = from; below = below }) (first_of_cell has) in
      sound_there heap other words has (subst (λ (one : Cell). IsSoundCell heap one (words_of_cell heap one)) same
      sound)
]
