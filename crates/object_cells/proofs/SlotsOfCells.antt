-- Slots of some cells: of the first of them, of the rest; and which addresses of a cell are slots of none.
use Rattle.std.proofs.Common.{ℕ, ◌⊎◌, inl, inr, List, [], ◌∷◌, Contains, sym, subst}
use Rattle.tagged_word.proofs.Members.{first_in, rest_in, one_in, in_cases}
use Rattle.heap_model.specs.Types.{Cell}
use Rattle.heap_model.specs.Heaps.{Heap, HasCell, words_of_cell}
use Rattle.heap_model.specs.Wholeness.{HasRows}
use Rattle.heap_model.specs.Remembered.{IsSlotOf, IsSlotOfOne, IsInOneOf}
use Rattle.heap_model.proofs.CellsApart.{IsOfCell, cells_apart}
use Rattle.heap_model.proofs.RememberedSlots.{slot_of_cell}

-- a slot of the first cell is one of all
pub slot_of_first : {at : ℕ} (cell : Cell) (others : List Cell) → IsSlotOf cell at → IsSlotOfOne (cell ∷ others) at
slot_of_first cell others slot = record { cell = cell; among = first_in cell others; slot = slot }

-- and so is one of the rest
pub slot_of_rest : {at : ℕ} (cell : Cell) (others : List Cell) → IsSlotOfOne others at → IsSlotOfOne (cell ∷ others) at
slot_of_rest cell others one =
    record { cell = one.cell; among = rest_in cell others one.cell one.among; slot = one.slot }

-- a slot of one of these cells is one of the first, or one of the rest
pub slot_of_one_cases : {at : ℕ} (cell : Cell) (others : List Cell) → IsSlotOfOne (cell ∷ others) at
    → IsSlotOf cell at ⊎ IsSlotOfOne others at
slot_of_one_cases {at} cell others one =
    elim (in_cases cell others one.cell one.among) [
      | inl same ↦ inl (subst (λ (c : Cell). IsSlotOf c at) (sym same) one.slot)
      | inr there ↦ inr (record { cell = one.cell; among = there; slot = one.slot })
    ]

-- where a slot of the first is one of another cell, a slot of all is one where this stands in its place
pub one_changes : {at : ℕ} (cell came : Cell) (others : List Cell) → (IsSlotOf cell at → IsSlotOf came at)
    → IsSlotOfOne (cell ∷ others) at → IsSlotOfOne (came ∷ others) at
one_changes cell came others into one =
    elim (slot_of_one_cases cell others one) [
      | inl first ↦ slot_of_first came others (into first)
      | inr rest ↦ slot_of_rest came others rest
    ]

-- where the first cell and each of the rest stand, all of them do
pub all_stand : {heap : Heap} (cell : Cell) (others : List Cell) → HasCell heap cell (words_of_cell heap cell)
    → ((one : Cell) → Contains others one → HasCell heap one (words_of_cell heap one)) → (one : Cell)
    → Contains (cell ∷ others) one → HasCell heap one (words_of_cell heap one)
all_stand {heap} cell others has stand one among = elim (in_cases cell others one among) [
  | inl same ↦ subst (λ (c : Cell). HasCell heap c (words_of_cell heap c)) same has
  | inr there ↦ stand one there
]

-- and so does one alone
pub one_stands : {heap : Heap} (cell : Cell) → HasCell heap cell (words_of_cell heap cell) → (one : Cell)
    → Contains (cell ∷ []) one → HasCell heap one (words_of_cell heap one)
one_stands {heap} cell has one among =
    subst (λ (c : Cell). HasCell heap c (words_of_cell heap c)) (one_in cell one among) has

-- an address in the first cell is in one of all
pub in_first_cell : {at : ℕ} (cell : Cell) (others : List Cell) → IsOfCell cell at → IsInOneOf (cell ∷ others) at
in_first_cell cell others of_cell =
    record { cell = cell; among = first_in cell others; from = of_cell.from; below = of_cell.below }

-- so is one in a cell of these
pub in_one_cell : {at : ℕ} {cells : List Cell} (cell : Cell) → Contains cells cell → IsOfCell cell at
    → IsInOneOf cells at
in_one_cell cell among of_cell =
    record { cell = cell; among = among; from = of_cell.from; below = of_cell.below }

-- a slot of a cell that stands is in it
pub slot_in_one : {heap : Heap} {cells : List Cell} {cell : Cell} {words : List ℕ} {at : ℕ} → HasCell heap cell words
    → Contains cells cell → IsSlotOf cell at → IsInOneOf cells at
slot_in_one {cell = cell} has among slot = in_one_cell cell among (slot_of_cell has slot)

-- Of cells that stand in a heap, only the one that has the address has a slot there.
pub no_slot_of_one : {heap : Heap} {cells : List Cell} {cell : Cell} {words : List ℕ} {at : ℕ} → HasRows heap
    → ((one : Cell) → Contains cells one → HasCell heap one (words_of_cell heap one)) → HasCell heap cell words
    → IsOfCell cell at → (IsSlotOf cell at → ⊥) → IsSlotOfOne cells at → ⊥
no_slot_of_one {at = at} rows stand has of_cell none one =
    let has_one = stand one.cell one.among in
    let same = cells_apart at rows has_one has (slot_of_cell has_one one.slot) of_cell in
    none (subst (λ (c : Cell). IsSlotOf c at) same one.slot)
