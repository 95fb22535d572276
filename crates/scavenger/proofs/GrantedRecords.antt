-- Words of a free cell were granted: slots stay, and so does what is recorded and what is reached.
use Rattle.std.proofs.Common.{◌≡◌, ℕ, ◌+◌, ◌<◌, ◌≤◌, ◌↔◌, inl, inr, List, Contains, IsTrue, slice_get, sym, ◌∙◌}
use Rattle.std.proofs.Common.{subst, arith}
use Rattle.std.proofs.lemmas.Bool.{cases_lt}
use Rattle.tagged_word.specs.Cells.{scavenge_offsets, is_free_kind}
use Rattle.page_space.proofs.LawsHold.{kinds_by_number}
use Rattle.cell_layout.proofs.OneCell.{slots_lie_within}
use Rattle.handle_roots.specs.Roots.{root_at}
use Rattle.heap_model.specs.Types.{Cell, Run}
use Rattle.heap_model.specs.Heaps.{Heap, HasCell}
use Rattle.heap_model.specs.Remembered.{IsPageSlot, AreRemembered}
use Rattle.heap_model.specs.Reaching.{IsReached, IsTight}
use Rattle.heap_model.proofs.BoundHeaps.{none_in}
use Rattle.heap_model.proofs.CellsApart.{cells_apart, has_is_cell}
use Rattle.heap_model.proofs.RememberedSlots.{refers_to_young_stays}
use Rattle.scavenger.proofs.PagesSlots.{free_slots}
use Rattle.scavenger.proofs.GrantedWords.{Granting, now, stood, beside_stays, after_free}
use Rattle.scavenger.proofs.GrantedCells.{granted, cell_stays, cell_from, after_in_page, outside_stays}
use Rattle.scavenger.proofs.GrantedMoves.{used_apart}

-- a cell with a slot is not free
slotted : (cell : Cell) (offset : ℕ) → Contains (scavenge_offsets cell.layout cell.length) offset
    → IsTrue (is_free_kind cell.layout.kind) → ⊥
slotted cell offset slot is_free =
    none_in offset (subst (λ (offsets : List ℕ). Contains offsets offset)
    (free_slots cell.layout.kind cell.layout cell.length is_free) slot)

module _ {heap : Heap} {run : Run} {n : ℕ} (granting : Granting heap run n) where
  -- an address of a slot is none of the run
  pub slot_apart : {cell : Cell} {words : List ℕ} (offset : ℕ) → HasCell heap cell words
      → Contains (scavenge_offsets cell.layout cell.length) offset → run.at ≤ cell.at + offset
      → cell.at + offset < run.at + run.words → ⊥
  slot_apart {cell} offset has slot above below =
      let within = (slots_lie_within heap.space heap.words cell offset (has_is_cell has) slot).within in
      let same : stood granting ≡ cell =
      cells_apart (cell.at + offset) granting.whole.rows granting.free.has has
      (record {
        from = omega (arith, above, granting.free.stands);
        below = omega (arith, below, granting.free.stands, granting.free.size);
      })
      (record { from = omega arith; below = omega (arith, within) }) in
      slotted cell offset slot
      (subst (λ (one : Cell). IsTrue (is_free_kind one.layout.kind)) same granting.free.free)

  -- so its word stays
  slot_stays : {cell : Cell} {words : List ℕ} (offset : ℕ) → HasCell heap cell words
      → Contains (scavenge_offsets cell.layout cell.length) offset
      → slice_get (now granting) (cell.at + offset) ≡ slice_get heap.words (cell.at + offset)
  slot_stays {cell} offset has slot =
      let at : ℕ = cell.at + offset in
      beside_stays granting at (elim (cases_lt at run.at) [
        | inl before ↦ inl before
        | inr above ↦ elim (cases_lt at (run.at + run.words)) [
          | inl below ↦ absurd (slot_apart offset has slot above below)
          | inr behind ↦ inr behind
        ]
      ])

  -- and so does its cell
  host_stays : {cell : Cell} {words : List ℕ} (offset : ℕ) → HasCell heap cell words
      → Contains (scavenge_offsets cell.layout cell.length) offset → HasCell (granted granting) cell words
  host_stays {cell} offset has slot = cell_stays granting has (used_apart granting has (slotted cell offset slot))

  -- a slot of a page is one afterwards, with its word
  page_slot_stays : {at : ℕ} → IsPageSlot heap at
      → IsPageSlot (granted granting) at × (slice_get (now granting) at ≡ slice_get heap.words at)
  page_slot_stays {at} is =
      let offset : ℕ = is.slot.offset in (
        record {
          cell = is.cell;
          words = is.words;
          has = host_stays offset is.has is.slot.visited;
          of_page = is.of_page;
          slot = is.slot;
        },
        subst (λ one. slice_get (now granting) one ≡ slice_get heap.words one) is.slot.stands
            (slot_stays offset is.has is.slot.visited),
      )

  -- and was one before
  page_slot_was : {at : ℕ} → IsPageSlot (granted granting) at → IsPageSlot heap at
  page_slot_was is = elim (cell_from granting is.has) [
    | inl old ↦
        record { cell = is.cell; words = is.words; has = old.0; of_page = is.of_page; slot = is.slot }
    | inr came ↦ absurd (slotted is.cell is.slot.offset is.slot.visited (after_free granting is.cell came).0)
  ]

  -- what was recorded is right where the same slots are
  pub stays_remembered : (were are : List ℕ) → ((at : ℕ) → Contains are at ↔ Contains were at)
      → AreRemembered heap were → AreRemembered (granted granting) are
  stays_remembered were are same remembered at = (
    λ there.
        let was = (remembered at).0 ((same at).0 there) in
        let stays = page_slot_stays was.0 in
        (stays.0, refers_to_young_stays stays.1 was.1),
    λ both.
        let was = page_slot_was both.0 in
        (same at).1 ((remembered at).1 (was, refers_to_young_stays (sym (page_slot_stays was).1) both.1)),
  )

  -- what was reached is
  reached_stays : (at : ℕ) → IsReached heap at → IsReached (granted granting) at
  reached_stays _ (IsReached.by_variable variable at known holds) =
      let place : ℕ = root_at heap.space variable in
      let numbers = kinds_by_number heap.space in
      IsReached.by_variable variable at known
      (outside_stays granting place (omega (arith, numbers.roots)) ∙ holds)
  reached_stays _ (IsReached.by_page slot at is holds) =
      let stays = page_slot_stays is in
      IsReached.by_page slot at stays.0 (stays.1 ∙ holds)
  reached_stays _ (IsReached.by_slot cell words offset at reached has slot holds) =
      IsReached.by_slot cell words offset at (reached_stays cell.at reached) (host_stays offset has slot) slot holds

  -- so a tight heap stays so
  pub stays_tight : IsTight heap → IsTight (granted granting)
  stays_tight tight cell words has above = elim (cell_from granting has) [
    | inl old ↦ reached_stays cell.at (tight cell words old.0 above)
    | inr came ↦ absurd (omega (arith, above, after_in_page granting came))
  ]
