-- Whether an object's cell names a cell, and which words are dead then.
use Rattle.std.proofs.Common.{◌≡◌, ℕ, ◌↔◌, Bool, true, false, not, List, Option, Some, None, is_some, IsTrue}
use Rattle.std.proofs.Common.{refl, subst}
use Rattle.std.proofs.lemmas.Bool.{false≢true}
use Rattle.heap_model.specs.Types.{Cell}
use Rattle.heap_model.specs.Heaps.{Heap, HasCell, words_of_cell}
use Rattle.heap_model.specs.Wholeness.{HasRows, IsOwnedKind}
use Rattle.live_cells.specs.Exact.{IsNamedByObject, IsWordOf, IsDeadWord}
use Rattle.image_walk.specs.Spans.{StandsIn}
use Rattle.slow_check.specs.NamingSlots.{IsFound}
use Rattle.image_walk.specs.Naming.{IsSomeSlot}
use Rattle.image_walk.proofs.NamedSlots.{some_slot, names_from}
use Rattle.slow_check.specs.Recorded.{IsCellOver, HasNoCellOver}
use Rattle.slow_check.specs.DeadCells.{IsDeadCell}
use Rattle.slow_check.proofs.ComersFound.{own_words_there}
use Rattle.slow_check.proofs.RecordedSlots.{one_over}

-- an object's cell names a store, a table or a box exactly where a slot is found that refers to it
pub named_where : (heap : Heap) (cell : Cell) (found : Option ℕ) → StandsIn heap cell
    → IsOwnedKind cell.layout.kind → IsFound (IsSomeSlot heap cell.at) found
    → IsTrue (is_some found) ↔ IsNamedByObject heap cell.at
named_where heap cell None stands owned none = (
  λ yes. absurd (false≢true yes),
  λ named. absurd (none named.slot (some_slot named.names)),
)
named_where heap cell (Some slot) stands owned one = (
  λ yes. record { owner = one.owner; slot = slot; names = names_from cell stands owned one },
  λ named. refl,
)

-- no object's cell names a cell exactly where it is not so that one does
pub unnamed_where : (P : Type 0) (named : Bool) → IsTrue named ↔ P → IsTrue (not named) ↔ (P → ⊥)
unnamed_where P true is = (λ wrong. absurd (false≢true wrong), λ none. absurd (none (is.0 refl)))
unnamed_where P false is = (λ yes p. false≢true (is.1 p), λ none. refl)

-- a cell that has the word at the address is over it
over_of : {heap : Heap} {at : ℕ} {cell : Cell} {words : List ℕ} → HasCell heap cell words → IsWordOf cell at
    → IsCellOver heap at cell
over_of has word = record { stands = own_words_there has; from = word.from; below = word.below }

-- a word is dead exactly where the cell over it is
pub dead_where : (heap : Heap) (at : ℕ) (cell : Cell) → HasRows heap → IsCellOver heap at cell
    → IsDeadCell heap cell ↔ IsDeadWord heap at
dead_where heap at cell rows over = (
  λ dead other words has word.
      let same : cell ≡ other = one_over rows over (over_of has word) in subst (IsDeadCell heap) same dead,
  λ dead. dead cell (words_of_cell heap cell) over.stands (record { from = over.from; below = over.below }),
)

-- a word that no cell is over is dead
pub dead_under_none : (heap : Heap) (at : ℕ) → HasNoCellOver heap at → IsDeadWord heap at
dead_under_none heap at none cell words has word = absurd (none cell (over_of has word))
