-- The slots that refer to an address: those of a cell, those of an object, and those of all objects.
use Rattle.std.proofs.Common.{◌≡◌, ℕ, ◌+◌, ◌<◌, inl, inr, Contains, Option, Some, None}
use Rattle.std.proofs.Common.{slice_get, sym, ◌∙◌, subst, arith}
use Rattle.std.proofs.lemmas.Bool.{cases_lt}
use Rattle.tagged_word.specs.Cells.{scavenge_offsets}
use Rattle.heap_model.specs.Types.{Cell}
use Rattle.cell_layout.specs.Cells.{IsCell}
use Rattle.cell_layout.specs.Slots.{IsLeastFrom}
use Rattle.cell_layout.proofs.OneCell.{one_cell}
use Rattle.heap_model.specs.Heaps.{Heap}
use Rattle.heap_model.specs.Slots.{reference_word}
use Rattle.heap_model.specs.Wholeness.{HasRows}
use Rattle.heap_model.proofs.CellsApart.{has_is_cell}
use Rattle.image_walk.specs.Spans.{StandsIn}
use Rattle.image_walk.specs.NextCell.{IsNextCell}
use Rattle.image_walk.specs.Naming.{IsSlotIn, IsSlotNextTo, IsSlotOf, IsSlotOfObject}
use Rattle.slow_check.specs.NamingSlots.{IsFound}
use Rattle.image_walk.proofs.CellsOnward.{passed_or_next}
use Rattle.image_walk.proofs.ObjectNaming.{slot_is, slot_beside_is}

-- of the slots of a cell before an offset, none refers to the address
abbrev pub NoneBefore : Heap → Cell → ℕ → ℕ → Type 0
NoneBefore heap cell named from =
    (offset : ℕ) → Contains (scavenge_offsets cell.layout cell.length) offset → offset < from
    → slice_get heap.words (cell.at + offset) ≡ Some (reference_word named) → ⊥

-- one slot more was passed
pub none_before_more : (heap : Heap) (cell : Cell) (named from offset : ℕ)
    → IsLeastFrom (scavenge_offsets cell.layout cell.length) from offset → NoneBefore heap cell named from
    → (slice_get heap.words (cell.at + offset) ≡ Some (reference_word named) → ⊥)
    → NoneBefore heap cell named (offset + 1)
none_before_more heap cell named from offset least before here other among below refers =
    elim (cases_lt other from) [
      | inl early ↦ before other among early refers
      | inr late ↦
          let same : offset ≡ other = omega (arith, least.least other among late, below) in
          let Is : ℕ → Type 0 = λ one. slice_get heap.words (cell.at + one) ≡ Some (reference_word named) → ⊥ in
          subst Is same here refers
    ]

-- of the slots of the objects before an address, none refers to another
abbrev pub NoneTo : Heap → ℕ → ℕ → Type 0
NoneTo heap named at =
    (owner : Cell) → StandsIn heap owner → owner.at < at → (slot : ℕ) → IsSlotOfObject heap owner named slot → ⊥

-- one cell more was passed
pub none_to_more : (heap : Heap) (named : ℕ) (at : ℕ) (cell : Cell) → HasRows heap
    → IsNextCell heap at cell → NoneTo heap named at
    → ((slot : ℕ) → IsSlotOfObject heap cell named slot → ⊥)
    → NoneTo heap named (cell.at + cell.size)
none_to_more heap named at cell rows next before here owner stands below slot is =
    elim (passed_or_next heap at cell owner rows next stands below) [
      | inl early ↦ before owner stands early slot is
      | inr same ↦ here slot (subst (λ (one : Cell). IsSlotOfObject heap one named slot) (sym same) is)
    ]

-- what holds of the slots of the cell there holds of those of the one to which slot 1 refers
pub of_next_to : (heap : Heap) (object cell : Cell) (named slot at : ℕ) → IsCell heap.space heap.words cell
    → cell.at ≡ at → (is : IsSlotNextTo heap object named slot) → is.other.at ≡ at → IsSlotIn heap cell named slot
of_next_to heap object cell named slot at is_cell place is place_too =
    let same : is.other ≡ cell =
    one_cell heap.space heap.words is.other cell (has_is_cell is.next_to.stands) is_cell (place_too ∙ sym place) in
    subst (λ (one : Cell). IsSlotIn heap one named slot) same is.is

-- where no own slot refers to the address, what is found among the others is found among all
pub other_of_object : (heap : Heap) (object : Cell) (named : ℕ) (found : Option ℕ) → StandsIn heap object
    → ((slot : ℕ) → IsSlotIn heap object named slot → ⊥)
    → IsFound (IsSlotNextTo heap object named) found → IsFound (IsSlotOf heap object named) found
other_of_object heap object named None stands own next_to =
    λ slot is. elim (slot_is heap object named slot stands is) [
      | inl one ↦ own slot one
      | inr other ↦ next_to slot other
    ]
other_of_object heap object named (Some slot) stands own next_to = slot_beside_is heap object named slot next_to
