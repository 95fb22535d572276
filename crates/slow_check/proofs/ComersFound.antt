-- What a search for a cell that comes to an address tells.
use Rattle.std.proofs.Common.{◌≡◌, ℕ, ◌↔◌, true, false, List, Option, Some, None, is_some, IsTrue}
use Rattle.std.proofs.Common.{MatchOption, refl, sym, subst, arith}
use Rattle.std.proofs.lemmas.Bool.{false≢true}
use Rattle.heap_model.specs.Types.{Cell}
use Rattle.heap_model.specs.Heaps.{Heap, HasCell, words_of_cell}
use Rattle.heap_moves.specs.Moved.{IsFrom}
use Rattle.image_walk.specs.Spans.{StandsIn}
use Rattle.slow_check.specs.MovedCells.{HasNoComerFrom, IsComer, IsUnused}

-- a cell of the heap stands in it with its own words
pub own_words_there : {heap : Heap} {cell : Cell} {words : List ℕ} → HasCell heap cell words → StandsIn heap cell
own_words_there {heap} {cell} has = subst (HasCell heap cell) (sym has.words_are) has

-- where none is found, none comes
pub none_comes : (heap : Heap) (to : ℕ → Option ℕ) (now from : ℕ) (found : Option Cell) → is_some found ≡ false
    → MatchOption found (HasNoComerFrom heap to now from) (λ cell. IsComer heap to now from cell)
    → HasNoComerFrom heap to now from
none_comes heap to now from None missing none = none
none_comes heap to now from (Some cell) missing comer = absurd (false≢true (sym missing))

-- and where one is found, it is not so that none comes
pub one_comes : (heap : Heap) (to : ℕ → Option ℕ) (now from : ℕ) (found : Option Cell) → is_some found ≡ true
    → MatchOption found (HasNoComerFrom heap to now from) (λ cell. IsComer heap to now from cell)
    → HasNoComerFrom heap to now from → ⊥
one_comes heap to now from None there none none_too = absurd (false≢true there)
one_comes heap to now from (Some cell) there comer none_too = none_too cell comer.stands comer.reached comer.comes

-- a cell that is not so, and to whose address none comes, is from none
from_none : {old : Heap} {to : ℕ → Option ℕ} {cell : Cell} → (IsUnused cell → ⊥) → HasNoComerFrom old to cell.at 0
    → IsFrom old to cell → ⊥
from_none used none (IsFrom.stood was words has comes) = none was (own_words_there has) (omega arith) comes
from_none used none (IsFrom.free free no_number) = used (record { free = free; no_number = no_number })

-- so whether one is found tells whether it is from one
pub from_found : (old : Heap) (to : ℕ → Option ℕ) (cell : Cell) (found : Option Cell) → (IsUnused cell → ⊥)
    → MatchOption found (HasNoComerFrom old to cell.at 0) (λ was. IsComer old to cell.at 0 was)
    → IsTrue (is_some found) ↔ IsFrom old to cell
from_found old to cell None used none = (λ wrong. absurd (false≢true wrong), λ is. absurd (from_none used none is))
from_found old to cell (Some was) used comer =
    (λ yes. IsFrom.stood was (words_of_cell old was) comer.stands comer.comes, λ is. refl)
