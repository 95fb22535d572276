-- The places of an object between two addresses, as cells are passed.
use Rattle.std.proofs.Common.{ℕ, ◌+◌, ◌≤◌, inl, inr, arith}
use Rattle.std.proofs.lemmas.Bool.{cases_lt}
use Rattle.heap_model.specs.Types.{Cell}
use Rattle.heap_model.specs.Heaps.{Heap, words_of_cell}
use Rattle.heap_model.specs.Wholeness.{HasRows}
use Rattle.image_walk.specs.Finding.{HasNoCellFrom}
use Rattle.image_walk.specs.NextCell.{IsNextCell}
use Rattle.slow_check.specs.Places.{IsOf, HasNoPlaceFrom, IsFirstPlace, HasMadeNumber}
use Rattle.slow_check.proofs.EachCell.{EachBefore, each_before_more, each_to_end}

-- the cell is not the object's, if it stands at the address or behind it
abbrev pub IsNoneFrom : ℕ → ℕ → Cell → Type 0
IsNoneFrom number from cell = from ≤ cell.at → IsOf cell number → ⊥

-- no cell of the object stands from one address to another
abbrev pub HasNoPlaceOf : Heap → ℕ → ℕ → ℕ → Type 0
HasNoPlaceOf heap number from at = EachBefore heap (IsNoneFrom number from) at

-- one cell more was passed, which is not the object's
pub no_place_more : (heap : Heap) (number from at : ℕ) (next : Cell) → HasRows heap → IsNextCell heap at next
    → HasNoPlaceOf heap number from at → (IsOf next number → ⊥) → HasNoPlaceOf heap number from (next.at + next.size)
no_place_more heap number from at next rows is none other =
    each_before_more heap (IsNoneFrom number from) at next rows is none (λ behind. other)

-- all cells were passed
pub no_place_to_end : (heap : Heap) (number from at : ℕ) → HasNoCellFrom heap at → HasNoPlaceOf heap number from at
    → HasNoPlaceFrom heap number from
no_place_to_end heap number from at end none cell stands =
    each_to_end heap (IsNoneFrom number from) at end none cell stands

-- the next cell is the first of the object
pub first_place : (heap : Heap) (number from at : ℕ) (next : Cell) → IsNextCell heap at next → from ≤ at
    → HasNoPlaceOf heap number from at → IsOf next number → IsFirstPlace heap number from next
first_place heap number from at next is behind none of_number = record {
  stands = is.first.has;
  is = of_number;
  reached = omega (arith, behind, is.first.reached);
  first = λ other stands past of_other. elim (cases_lt other.at at) [
    | inl early ↦ absurd (none other stands early past of_other)
    | inr late ↦ is.first.first other (words_of_cell heap other) stands late
  ];
  onward = is.onward;
}

-- each object's cell before an address carries the number of one of so many objects
abbrev pub AreMadeTo : Heap → ℕ → ℕ → Type 0
AreMadeTo heap count at = EachBefore heap (λ cell. HasMadeNumber cell count) at

-- and so does the next
pub made_to_more : (heap : Heap) (count at : ℕ) (next : Cell) → HasRows heap → IsNextCell heap at next
    → AreMadeTo heap count at → HasMadeNumber next count → AreMadeTo heap count (next.at + next.size)
made_to_more heap count at next rows is made here =
    each_before_more heap (λ cell. HasMadeNumber cell count) at next rows is made here
