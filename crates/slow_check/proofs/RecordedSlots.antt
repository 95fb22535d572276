-- The cell that the word at an address is of, and which addresses must be recorded.
use Rattle.std.proofs.Common.{◌≡◌, ℕ, ◌+◌, ◌-◌, ◌<◌, ◌≤◌, ◌↔◌, inl, inr, Bool, true, false, not, List, Contains, IsTrue}
use Rattle.std.proofs.Common.{refl, sym, subst, arith}
use mathlib.Core.Bool.{beq}
use Rattle.std.proofs.lemmas.Bool.{false≢true, cases_lt}
use Rattle.tagged_word.specs.Cells.{scavenge_offsets}
use Rattle.page_space.specs.Extents.{eden_start}
use Rattle.heap_model.specs.Types.{Cell}
use Rattle.heap_model.specs.Heaps.{Heap, HasCell, words_of_cell}
use Rattle.heap_model.specs.Wholeness.{HasRows}
use Rattle.heap_model.specs.Remembered.{IsSlotOf, IsPageSlot, AreRemembered}
use Rattle.heap_model.proofs.CellsApart.{cells_apart}
use Rattle.heap_model.proofs.RememberedSlots.{slot_of_cell, page_slot_below}
use Rattle.image_walk.specs.Finding.{IsFirstCell, HasNoCellFrom}
use Rattle.image_walk.specs.NextCell.{IsBoundary}
use Rattle.slow_check.specs.Recorded.{IsCellOver, HasNoCellOver, MustBeRecorded, AreRecordedTo, AreOfPages}

-- Where no cell reaches over an address, and the first one from there on stands behind another address, no cell is over
-- that.
pub none_over : (heap : Heap) (from address : ℕ) (next : Cell) → IsBoundary heap from → from ≤ address
    → IsFirstCell heap from next → address < next.at → HasNoCellOver heap address
none_over heap from address next boundary behind first before cell over =
    elim (cases_lt cell.at from) [
      | inl early ↦
          absurd (omega (arith, boundary.apart cell (words_of_cell heap cell) over.stands early, over.below, behind))
      | inr late ↦
          absurd (omega (arith, first.first cell (words_of_cell heap cell) over.stands late, over.from, before))
    ]

-- so it is where none stands from there on
pub none_over_end : (heap : Heap) (from address : ℕ) → IsBoundary heap from → from ≤ address → HasNoCellFrom heap from
    → HasNoCellOver heap address
none_over_end heap from address boundary behind none cell over =
    let early = none cell (words_of_cell heap cell) over.stands in
    absurd (omega (arith, boundary.apart cell (words_of_cell heap cell) over.stands early, over.below, behind))

-- the cell of a slot of a page is over it
pub slot_is_over : {heap : Heap} {at : ℕ} (slot : IsPageSlot heap at) → IsCellOver heap at slot.cell
slot_is_over {heap} slot =
    let of_cell = slot_of_cell slot.has slot.slot in
    record {
      stands = subst (HasCell heap slot.cell) (sym slot.has.words_are) slot.has;
      from = of_cell.from;
      below = of_cell.below;
    }

-- no cell is over two of which one differs
pub one_over : {heap : Heap} {at : ℕ} {cell other : Cell} → HasRows heap → IsCellOver heap at cell
    → IsCellOver heap at other → cell ≡ other
one_over {at = at} rows one another =
    cells_apart at rows one.stands another.stands (record { from = one.from; below = one.below })
    (record { from = another.from; below = another.below })

-- The address of a word of a page is that of a slot exactly where the cell over it has one there.
pub slot_where : (heap : Heap) (at : ℕ) (cell : Cell) → HasRows heap → at < eden_start heap.space
    → IsCellOver heap at cell
    → Contains (scavenge_offsets cell.layout cell.length) (at - cell.at) ↔ IsPageSlot heap at
slot_where heap at cell rows page over =
    let offset : ℕ = at - cell.at in
    let sums : cell.at + offset ≡ at = omega (arith, over.from) in (
      λ visited. record {
        cell = cell;
        words = words_of_cell heap cell;
        has = over.stands;
        of_page = omega (arith, over.from, page);
        slot = record { offset = offset; visited = visited; stands = sums };
      },
      λ slot.
          let same : slot.cell ≡ cell = one_over rows (slot_is_over slot) over in
          let Has : Cell → Type 0 = λ one. IsSlotOf one at in
          let here : IsSlotOf cell at = subst Has same slot.slot in
          let one : here.offset ≡ offset = omega (arith, here.stands, sums) in
          subst (Contains (scavenge_offsets cell.layout cell.length)) one here.visited,
    )

-- two tests that don't differ tell the same
pub tell_the_same : (P Q : Type 0) (a b : Bool) → IsTrue a ↔ P → IsTrue b ↔ Q → not (beq a b) ≡ false → P ↔ Q
tell_the_same P Q true true tells tells_too same = (λ p. tells_too.0 refl, λ q. tells.0 refl)
tell_the_same P Q false false tells tells_too same =
    (λ p. absurd (false≢true (tells.1 p)), λ q. absurd (false≢true (tells_too.1 q)))
tell_the_same P Q true false tells tells_too differ = absurd (false≢true (sym differ))
tell_the_same P Q false true tells tells_too differ = absurd (false≢true (sym differ))

-- and two that tell the same don't differ
pub same_tests : (P Q : Type 0) (a b : Bool) → IsTrue a ↔ P → IsTrue b ↔ Q → P ↔ Q → not (beq a b) ≡ false
same_tests P Q true true tells tells_too same = refl
same_tests P Q false false tells tells_too same = refl
same_tests P Q true false tells tells_too same = absurd (false≢true (tells_too.1 (same.0 (tells.0 refl))))
same_tests P Q false true tells tells_too same = absurd (false≢true (tells.1 (same.1 (tells_too.0 refl))))

-- one address more is recorded exactly where it must be
pub recorded_more : (heap : Heap) (slots : List ℕ) (at : ℕ) → AreRecordedTo heap slots at
    → Contains slots at ↔ MustBeRecorded heap at → AreRecordedTo heap slots (at + 1)
recorded_more heap slots at before here other below = elim (cases_lt other at) [
  | inl early ↦ before other early
  | inr late ↦
      let same : at ≡ other = omega (arith, late, below) in
      subst (λ n. Contains slots n ↔ MustBeRecorded heap n) same here
]

-- Addresses of pages that are recorded exactly where they must be are those of the slots that refer to young cells.
pub remembered_if : (heap : Heap) (slots : List ℕ) → AreOfPages heap slots
    → AreRecordedTo heap slots (eden_start heap.space) ↔ AreRemembered heap slots
remembered_if heap slots of_pages = (
  λ recorded at. (
    λ listed. (recorded at (of_pages at listed)).0 listed,
    λ must. (recorded at (page_slot_below must.0)).1 must,
  ),
  λ are at below. are at,
)

-- what is remembered is of pages
pub remembered_of_pages : (heap : Heap) (slots : List ℕ) → AreRemembered heap slots → AreOfPages heap slots
remembered_of_pages heap slots are at listed = page_slot_below ((are at).0 listed).0
