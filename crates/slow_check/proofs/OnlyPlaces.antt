-- Whether the first place of an object is its only one.
use Rattle.std.proofs.Common.{◌≡◌, ℕ, ◌+◌, ◌≤◌, inl, inr, refl, sym, ◌∙◌, ap, subst, arith}
use Rattle.std.proofs.lemmas.Bool.{cases_lt}
use Rattle.heap_model.specs.Types.{Cell}
use Rattle.heap_model.specs.Heaps.{Heap, HasCell, words_of_cell}
use Rattle.heap_model.specs.Slots.{IsPlace}
use Rattle.heap_model.specs.Wholeness.{HasRows}
use Rattle.heap_model.proofs.CellsApart.{IsOfCell, cells_apart, first_of_cell}
use Rattle.image_walk.specs.Spans.{StandsIn}
use Rattle.slow_check.specs.Places.{IsOf, HasNoPlaceFrom, IsFirstPlace, IsOnlyPlace, HasNoOnlyPlace}

-- a cell of the object is at a place of it
pub place_at : {heap : Heap} {number : ℕ} {cell : Cell} → StandsIn heap cell → IsOf cell number
    → IsPlace heap number cell.at
place_at {heap} {cell = cell} stands is = record {
  cell = cell;
  words = words_of_cell heap cell;
  has = stands;
  stands = refl;
  object = is.object;
  carries = is.carries;
}

-- the cell at a place stands in the heap
pub place_stands : {heap : Heap} {number at : ℕ} (place : IsPlace heap number at) → StandsIn heap place.cell
place_stands {heap} place = subst (HasCell heap place.cell) (sym place.has.words_are) place.has

-- and is the object's
pub place_is : {heap : Heap} {number at : ℕ} (place : IsPlace heap number at) → IsOf place.cell number
place_is place = record { object = place.object; carries = place.carries }

-- where a second place is behind the first, none is the only one
pub second_place : (heap : Heap) (number : ℕ) (one other : Cell) → IsFirstPlace heap number 0 one
    → IsFirstPlace heap number (one.at + one.size) other → HasNoOnlyPlace heap number
second_place heap number one other first second cell only =
    let at_one : one.at ≡ cell.at = only.once one.at (place_at first.stands first.is) in
    let at_other : other.at ≡ cell.at = only.once other.at (place_at second.stands second.is) in
    omega (arith, at_one, at_other, second.reached, (first_of_cell first.stands).below)

-- where none is behind it, it is the only one
pub one_place : (heap : Heap) (number : ℕ) (one : Cell) → HasRows heap → IsFirstPlace heap number 0 one
    → HasNoPlaceFrom heap number (one.at + one.size) → IsOnlyPlace heap number one
one_place heap number one rows first none = record {
  stands = first.stands;
  is = first.is;
  once = λ at place.
      let cell = place.cell in
      let stands = place_stands place in
      let from : one.at ≤ cell.at = first.first cell stands (omega arith) (place_is place) in
      elim (cases_lt cell.at (one.at + one.size)) [
        | inl within ↦
            let of_one : IsOfCell one cell.at = record { from = from; below = within } in
            let same : one ≡ cell = cells_apart cell.at rows first.stands stands of_one (first_of_cell stands) in
            sym place.stands ∙ ap (λ (c : Cell). c.at) (sym same)
        | inr behind ↦ absurd (none cell stands behind (place_is place))
      ];
}
