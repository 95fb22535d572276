-- What holds of each cell of a heap, as cells are passed.
use Rattle.std.proofs.Common.{ℕ, ◌+◌, ◌<◌, inl, inr, subst}
use Rattle.heap_model.specs.Types.{Cell}
use Rattle.heap_model.specs.Heaps.{Heap, words_of_cell}
use Rattle.heap_model.specs.Wholeness.{HasRows}
use Rattle.image_walk.specs.Finding.{HasNoCellFrom}
use Rattle.image_walk.specs.Spans.{StandsIn}
use Rattle.image_walk.specs.NextCell.{IsNextCell}
use Rattle.image_walk.proofs.CellsOnward.{passed_or_next}

-- it holds of each cell before the address
abbrev pub EachBefore : Heap → (Cell → Type 0) → ℕ → Type 0
EachBefore heap P at = (cell : Cell) → StandsIn heap cell → cell.at < at → P cell

-- and of the next cell, so it holds of each before the end of that
pub each_before_more : (heap : Heap) (P : Cell → Type 0) (at : ℕ) (next : Cell) → HasRows heap
    → IsNextCell heap at next → EachBefore heap P at → P next → EachBefore heap P (next.at + next.size)
each_before_more heap P at next rows is each here cell stands before =
    elim (passed_or_next heap at next cell rows is stands before) [
      | inl early ↦ each cell stands early
      | inr same ↦ subst P same here
    ]

-- all cells were passed
pub each_to_end : (heap : Heap) (P : Cell → Type 0) (at : ℕ) → HasNoCellFrom heap at → EachBefore heap P at
    → (cell : Cell) → StandsIn heap cell → P cell
each_to_end heap P at end each cell stands = each cell stands (end cell (words_of_cell heap cell) stands)
