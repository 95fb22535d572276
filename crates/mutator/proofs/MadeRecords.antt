-- What is recorded of pages stays right where a cell is made, and where it is bound.
use Rattle.std.proofs.Common.{◌≡◌, ℕ, ◌+◌, ◌-◌, ◌<◌, ◌≤◌, ◌⊎◌, inl, inr, List, [], ◌∷◌, Contains, sym, ap}
use Rattle.std.proofs.Common.{subst, arith, ◌∙◌}
use Rattle.std.proofs.lemmas.Bool.{cases_lt}
use Rattle.tagged_word.specs.Cells.{store_slot}
use Rattle.tagged_word.proofs.Members.{first_in, one_in, in_range}
use Rattle.page_space.specs.Extents.{eden_start}
use Rattle.heap_model.specs.Types.{Cell}
use Rattle.heap_model.specs.Heaps.{Heap, HasCell, words_of_cell}
use Rattle.heap_model.specs.Remembered.{IsSlotOf, IsSlotOfOne, Touch, TouchesCells, TouchesMade}
use Rattle.heap_model.proofs.BoundHeaps.{none_in}
use Rattle.write_barrier.specs.Recording.{touched, touched_again, touched_one}
use Rattle.write_barrier.proofs.TouchedRanges.{touched_inside, touched_outside}
use Rattle.object_cells.proofs.MadeTouches.{made_touched, made_slot_fits, made_word_fits}
use Rattle.object_cells.proofs.TouchedCells.{FitsTouch, fits_one, fits_range, fits_then, then_kept}
use Rattle.mutator.specs.Making.{head_touch, new_touch}
use Rattle.mutator.proofs.NewCells.{NewCell, cell_of, RefersNowhere, slot_in_head}
use Rattle.mutator.proofs.PutCells.{with_cell, with_cell_row, HasRoomFor, IsPutCell}

-- the slots of a new cell are behind its header, in its head
slot_is_of_head : {at a : ℕ} {one : NewCell} → RefersNowhere one → IsSlotOf (cell_of at one) a
    → (at + store_slot ≤ a) × (a < at + one.head)
slot_is_of_head {at} fresh slot =
    let bounds = slot_in_head slot.offset fresh slot.visited in
    (omega (arith, slot.stands, bounds.0), omega (arith, slot.stands, bounds.1))

-- and it has these slots
has_slot : {at a : ℕ} {one : NewCell} → RefersNowhere one → at + store_slot ≤ a → a < at + one.head
    → IsSlotOf (cell_of at one) a
has_slot {at} {a} {one} fresh from below =
    let offset : ℕ = a - at in
    let there = in_range store_slot (one.head - store_slot) offset (omega (arith, from))
    (omega (arith, from, below, fresh.some)) in
    record {
      offset = offset;
      visited = subst (λ offsets. Contains offsets offset) (sym fresh.offsets) there;
      stands = omega (arith, from);
    }

-- an address that is not in a range is before it or behind it
beside_range : (a from to : ℕ) → (from ≤ a → a < to → ⊥) → (a < from) ⊎ (to ≤ a)
beside_range a from to apart = elim (cases_lt a from) [
  | inl before ↦ inl before
  | inr above ↦ elim (cases_lt a to) [
    | inl below ↦ absurd (apart above below)
    | inr behind ↦ inr behind
  ]
]

-- what was kept was not stored
not_kept : {how : Touch} → how ≡ Touch.Kept → how ≡ Touch.Stored → ⊥
not_kept kept stored = cc

-- beside the cell nothing is touched
beside_new : (head size at a : ℕ) → store_slot < head → head ≤ size → (at ≤ a → a < at + size → ⊥)
    → new_touch head size at a ≡ Touch.Kept
beside_new head size at a some within apart =
    let out : (from to : ℕ) → at ≤ from → to ≤ at + size → (a < from) ⊎ (to ≤ a) = λ from to above below.
    beside_range a from to (λ begins ends. apart (omega (arith, begins, above)) (omega (arith, ends, below))) in
    ap (touched_again (head_touch head at a)) (touched_outside Touch.Wiped (at + head) (at + size) a
    (out (at + head) (at + size) (omega arith) (omega arith)))
    ∙ ap (touched_again (touched_one Touch.Wiped at a))
    (touched_outside Touch.Stored (at + store_slot) (at + head) a
    (out (at + store_slot) (at + head) (omega arith) (omega (arith, within))))
    ∙ touched_outside Touch.Wiped at (at + 1) a (out at (at + 1) (omega arith) (omega (arith, some, within)))

module _ {heap : Heap} {at used : ℕ} {one : NewCell} (fits : HasRoomFor heap at used one)
    (put : IsPutCell heap (with_cell heap at used one) at one) where
  -- the heap with the cell, and the cell
  abbrev now : Heap
  now = with_cell heap at used one

  abbrev cell : Cell
  cell = cell_of at one

  abbrev made : List Cell
  made = cell ∷ []

  abbrev touch : ℕ → Touch
  touch = new_touch one.head one.size at

  -- the cell stands
  made_stand : (other : Cell) → Contains made other → HasCell now other (words_of_cell now other)
  made_stand other among = put.cells.comes other among

  -- a word of it that is no slot fits where no slot's was put
  word_fits_there : (a : ℕ) → at ≤ a → a < at + one.size → (at + store_slot ≤ a → a < at + one.head → ⊥)
      → FitsTouch made made a Touch.Wiped
  word_fits_there a above below apart =
      made_word_fits made put.whole.rows made_stand cell (first_in cell []) (record { from = above; below = below })
      (λ slot. let of_head = slot_is_of_head fits.fresh slot in apart of_head.0 of_head.1)

  -- so each address fits
  new_fits : (a : ℕ) → FitsTouch made made a (touch a)
  new_fits a =
      let header = touched_one Touch.Wiped at in
      let slots = touched Touch.Stored (at + store_slot) (at + one.head) in
      fits_then made made (head_touch one.head at) (touched Touch.Wiped (at + one.head) (at + one.size)) a
      (fits_then made made header slots a
      (fits_one made made Touch.Wiped at a (word_fits_there at (omega arith)
      (omega (arith, fits.fresh.some, fits.fresh.within)) (λ from below. omega (arith, from))))
      (fits_range made made Touch.Stored (at + store_slot) (at + one.head) a (λ begins ends.
      made_slot_fits made put.whole.rows made_stand cell (first_in cell []) (has_slot fits.fresh begins ends))))
      (fits_range made made Touch.Wiped (at + one.head) (at + one.size) a (λ begins ends.
      word_fits_there a (omega (arith, begins)) ends (λ from below. omega (arith, below, begins))))

  -- and the slots were put
  slot_put : (a : ℕ) → a < eden_start heap.space → IsSlotOfOne made a → touch a ≡ Touch.Kept → ⊥
  slot_put a below slot kept =
      let same : cell ≡ slot.cell = one_in cell slot.cell slot.among in
      let here = slot_is_of_head fits.fresh (subst (λ (c : Cell). IsSlotOf c a) (sym same) slot.slot) in
      let header = touched_one Touch.Wiped at in
      let slots = touched Touch.Stored (at + store_slot) (at + one.head) in
      let first = then_kept (head_touch one.head at) (touched Touch.Wiped (at + one.head) (at + one.size)) a kept in
      not_kept (then_kept header slots a first.0).1
      (touched_inside Touch.Stored (at + store_slot) (at + one.head) a here.0 here.1)

  -- so the words of the cell were touched as they have to be
  new_made_touched : TouchesMade heap at (at + one.size) made touch
  new_made_touched =
      made_touched made touch fits.run (with_cell_row fits) (λ a below from to. new_fits a) slot_put

  -- beside the cell nothing was touched
  out_kept : (a : ℕ) → (at ≤ a → a < at + one.size → ⊥) → touch a ≡ Touch.Kept
  out_kept a out = beside_new one.head one.size at a fits.fresh.some fits.fresh.within out

  -- and no other
  pub new_touches : TouchesCells heap [] [] made touch
  new_touches = record {
    from = at;
    to = at + one.size;
    beside = record {
      within = λ a below out. inl (out_kept a out);
      stored = λ a below out is. absurd (not_kept (out_kept a out) is);
      wiped = λ a below out is slot. none_in slot.cell slot.among;
      kept = λ a below out is. (λ slot. slot, λ slot. slot);
    };
    of_made = new_made_touched;
  }
