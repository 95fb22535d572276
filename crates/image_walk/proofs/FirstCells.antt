-- The first cell of a heap at an address or behind it, cell by cell.
use Rattle.std.proofs.Common.{ℕ, ◌+◌, ◌≤◌, ◌<◌, inl, inr, List, sym, ap, subst, arith}
use Rattle.std.proofs.lemmas.Bool.{cases_lt}
use Rattle.heap_model.specs.Types.{Cell}
use Rattle.heap_model.specs.Heaps.{Heap, HasCell}
use Rattle.heap_model.specs.Wholeness.{HasRows}
use Rattle.image_walk.specs.NextCell.{IsNextCell}
use Rattle.image_walk.proofs.CellsOnward.{passed_or_next}

-- no cell from the one address on stands before the other
abbrev pub NoneFrom : Heap → ℕ → ℕ → Type 0
NoneFrom heap least at = (cell : Cell) (words : List ℕ) → HasCell heap cell words → least ≤ cell.at → at ≤ cell.at

-- one cell more was passed
pub none_from_more : (heap : Heap) (least at : ℕ) (next : Cell) → HasRows heap → IsNextCell heap at next
    → NoneFrom heap least at → next.at < least → NoneFrom heap least (next.at + next.size)
none_from_more heap least at next rows is none before cell words has from =
    elim (cases_lt cell.at (next.at + next.size)) [
      | inr behind ↦ behind
      | inl within ↦
          elim (passed_or_next heap at next cell rows is (subst (HasCell heap cell) (sym has.words_are) has) within) [
            | inl early ↦ absurd (omega (arith, early, none cell words has from))
            | inr same ↦ absurd (omega (arith, ap (λ (one : Cell). one.at) same, before, from))
          ]
    ]
