-- What is recorded after a sweep: again the slots of pages that refer to young cells.
use Rattle.std.proofs.Common.{◌≡◌, ℕ, inl, inr, List, [], Contains, IsTrue, refl, sym, subst, arith}
use Rattle.std.proofs.lemmas.Bool.{cases_lt, false≢true}
use Rattle.tagged_word.specs.declared.layout.Kind.TheVariants as kind
use Rattle.tagged_word.specs.Cells.{is_free_kind, scavenge_offsets_of}
use Rattle.page_space.specs.Extents.{eden_start}
use Rattle.remembered_set.specs.Recorded.{Recorded}
use Rattle.heap_model.specs.Types.{Kind, LayoutWord, Cell}
use Rattle.heap_model.specs.Heaps.{Heap, HasCell}
use Rattle.heap_model.specs.Changes.{Patch}
use Rattle.heap_model.specs.Remembered.{IsSlotOf, IsPageSlot, RefersToYoung, AreRemembered}
use Rattle.heap_model.proofs.BoundHeaps.{none_in}
use Rattle.heap_model.proofs.RememberedSlots.{slot_of_cell, page_slot_below, refers_to_young_stays}
use Rattle.sweeper.specs.Sweeping.{AreForgotten, IsInGap}
use Rattle.sweeper.proofs.SweptHeap.{Swept, after, marked_is_no_gap, marked_or_dead, dead_is_in_gap, marked_stays}
use Rattle.sweeper.proofs.SweptHeap.{marked_word_stays, cell_from}

-- a free cell has no slots, kind by kind
free_offsets : (k : Kind) (layout : LayoutWord) (length : ℕ) → IsTrue (is_free_kind k)
    → scavenge_offsets_of k layout length ≡ []
free_offsets kind.Filler layout length free = refl
free_offsets kind.Gap layout length free = refl
free_offsets _ layout length free = absurd (false≢true free)

-- so it has none
free_has_no_slot : {cell : Cell} {at : ℕ} → IsSlotOf cell at → IsTrue (is_free_kind cell.layout.kind) → ⊥
free_has_no_slot {cell} slot free =
    let none = free_offsets cell.layout.kind cell.layout cell.length free in
    none_in slot.offset (subst (λ (offsets : List ℕ). Contains offsets slot.offset) none slot.visited)

module _ {heap : Heap} {words marked : List ℕ} {gaps : List Patch} {old new : Recorded}
    (all : Swept heap words marked gaps) (forgotten : AreForgotten gaps old new)
    (bounded : old.bound ≡ eden_start heap.space) (right : AreRemembered heap old.slots) where
  -- a slot of a page that is in no gap is one of a marked cell
  slot_stays : {at : ℕ} → IsPageSlot heap at → (IsInGap gaps at → ⊥) → IsPageSlot (after all) at
  slot_stays slot outside =
      let of_cell = slot_of_cell slot.has slot.slot in
      elim (marked_or_dead all slot.has) [
        | inl kept ↦ record {
          cell = slot.cell;
          words = slot.words;
          has = marked_stays all slot.has kept;
          of_page = slot.of_page;
          slot = slot.slot;
        }
        | inr dead ↦ absurd (outside (dead_is_in_gap all dead.0 dead.1 dead.2 of_cell))
      ]

  -- what is recorded is such a slot, and refers to a young cell
  recorded_is_right : (at : ℕ) → Contains new.slots at
      → IsPageSlot (after all) at × RefersToYoung (eden_start heap.space) words at
  recorded_is_right at there = elim (cases_lt at old.bound) [
    | inl below ↦
        let was = (forgotten.each at below).0 there in
        let is = (right at).0 was.0 in
        (slot_stays is.0 was.1, refers_to_young_stays (all.swept.kept at was.1) is.1)
    | inr past ↦
        let was = (right at).0 (forgotten.beyond at past there) in
        absurd (omega (arith, past, bounded, page_slot_below was.0))
  ]

  -- such a slot is one of a marked cell
  right_by : (at : ℕ) (slot : IsPageSlot (after all) at) → RefersToYoung (eden_start heap.space) words at
      → HasCell heap slot.cell slot.words → Contains marked slot.cell.at → Contains new.slots at
  right_by at slot young has kept =
      let of_cell = slot_of_cell has slot.slot in
      let was : IsPageSlot heap at =
      record {
        cell = slot.cell;
        words = slot.words;
        has = has;
        of_page = slot.of_page;
        slot = slot.slot;
      } in
      let stays = marked_word_stays all at has kept of_cell in
      (forgotten.each at (omega (arith, bounded, page_slot_below was))).1
      ((right at).1 (was, refers_to_young_stays (sym stays) young), marked_is_no_gap all has kept of_cell)

  -- and is recorded
  right_is_recorded : (at : ℕ) → IsPageSlot (after all) at → RefersToYoung (eden_start heap.space) words at
      → Contains new.slots at
  right_is_recorded at slot young = elim (cell_from all slot.has) [
    | inl of_gap ↦ absurd (free_has_no_slot slot.slot of_gap.fills.is_free)
    | inr stood ↦ right_by at slot young stood.0 stood.1
  ]

  -- So what is recorded is right again.
  pub remembered_again : AreRemembered (after all) new.slots
  remembered_again at = (recorded_is_right at, λ both. right_is_recorded at both.0 both.1)
