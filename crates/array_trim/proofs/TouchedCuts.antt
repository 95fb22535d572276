-- Which addresses a trim of a list touches: the list's slot for its store and its length, the head of the store where
-- it begins then, and the words that are given up. So what is recorded of pages follows the cells.
use Rattle.std.proofs.Common.{◌≡◌, ℕ, ◌+◌, ◌≤◌, ◌<◌, ◌⊎◌, ◌↔◌, inl, inr, List, [], ◌∷◌, sym, ◌∙◌, ap, subst, arith}
use Rattle.tagged_word.specs.Cells.{store_head, store_slot, is_object_kind, is_free_kind}
use Rattle.tagged_word.proofs.Members.{first_in, rest_in, one_in}
use Rattle.page_space.specs.Extents.{eden_start}
use Rattle.heap_model.specs.Types.{Value, Cell}
use Rattle.heap_model.specs.Heaps.{Heap}
use Rattle.heap_model.specs.Kinds.{count_offset}
use Rattle.heap_model.specs.Remembered.{IsSlotOf, IsSlotOfOne, Touch, TouchesBeside}
use Rattle.heap_model.proofs.CellsApart.{IsOfCell, cells_apart}
use Rattle.object_cells.proofs.ListChanging.{list_is_no_store}
use Rattle.object_cells.proofs.NumberedSlots.{store_size}
use Rattle.object_cells.proofs.OwnCells.{list_size}
use Rattle.object_cells.proofs.SlotsOfCells.{slot_of_first, slot_of_rest, slot_of_one_cases, in_first_cell, in_one_cell}
use Rattle.object_cells.proofs.TouchedCells.{FitsTouch, cells_touched, kept_fits}
use Rattle.object_cells.proofs.TouchedOffsets.{IsBehindHead, free_has_no_slots, list_slot, object_store_slot}
use Rattle.object_cells.proofs.TouchedOffsets.{slot_of_store, store_has_slot}
use Rattle.array_trim.proofs.TrimmedCells.{IsFreeCell, Trimming}

-- How a trim of a list touches an address, where another store came in the words of its store: as the list's slot for
-- it, as the list's length, as a word of the store that went and no slot of the one that came; or it stays, and is a
-- slot of this one where it was one of the other.
pub data CutTouch (list store came : Cell) (touch : ℕ → Touch) (a : ℕ) : Type 0 where
  slot : a ≡ list.at + store_slot → touch a ≡ Touch.Stored → CutTouch list store came touch a
  count : a ≡ list.at + count_offset → touch a ≡ Touch.Wiped → CutTouch list store came touch a
  given_up : store.at ≤ a → a < store.at + (store_head + store.length) → (IsBehindHead came came.length a → ⊥)
      → touch a ≡ Touch.Wiped → CutTouch list store came touch a
  stays : (IsBehindHead store store.length a → IsBehindHead came came.length a) → touch a ≡ Touch.Kept
      → CutTouch list store came touch a

-- a free cell has no slots
free_slots : {one : Cell} {a : ℕ} → IsFreeCell one → IsSlotOf one a → ⊥
free_slots free visited = elim free.of_kind [
  | inl is ↦ free_has_no_slots (ap is_free_kind is) visited
  | inr is ↦ free_has_no_slots (ap is_free_kind is) visited
]

module _ {old new : Heap} {cell store came : Cell} {pieces : List Cell} {before after : List Value} {from : ℕ}
    (trim : Trimming old new cell store came pieces before after from) where
  -- the cells that went, and those that came
  abbrev went : List Cell
  went = cell ∷ store ∷ []

  abbrev comes : List Cell
  comes = cell ∷ pieces

  -- a word of the list's cell
  of_list : (k : ℕ) → k < 3 → IsOfCell cell (cell.at + k)
  of_list k few = record { from = omega arith; below = omega (arith, few, list_size trim.has trim.shown.of_kind) }

  -- a word of its store
  of_store : (a : ℕ) → store.at ≤ a → a < store.at + (store_head + store.length) → IsOfCell store a
  of_store a from below =
      record { from = from; below = omega (arith, below, store_size trim.refers.has trim.of_kind) }

  -- no word is one of both
  apart : (a : ℕ) → IsOfCell cell a → IsOfCell store a → ⊥
  apart a of_cell of_other =
      let one = cells_apart a trim.whole.rows trim.has trim.refers.has of_cell of_other in
      list_is_no_store trim.shown.of_kind (ap (λ (c : Cell). c.layout.kind) one ∙ trim.of_kind)

  -- a slot of the store that came is a word of the other, and one of its slots
  was_slot : (a : ℕ) → IsBehindHead came came.length a → IsBehindHead store store.length a
  was_slot a is = record {
    from = omega (arith, is.from, trim.place);
    below = omega (arith, is.below, trim.place, trim.room);
  }

  -- the slots of what came are the list's for its store, and those of the store that came
  came_slots : (a : ℕ) → IsSlotOfOne comes a → (cell.at + store_slot ≡ a) ⊎ IsBehindHead came came.length a
  came_slots a one = elim (slot_of_one_cases cell pieces one) [
    | inl own ↦ inl (list_slot trim.shown.of_kind own)
    | inr rest ↦ elim (trim.each rest.cell rest.among) [
      | inl same ↦
          inr (slot_of_store trim.still_store (subst (λ (c : Cell). IsSlotOf c a) (sym same) rest.slot))
      | inr free ↦ absurd (free_slots free rest.slot)
    ]
  ]

  -- those of what went are the list's for its store, and those of the store that went
  went_slots : (a : ℕ) → IsSlotOfOne went a → (cell.at + store_slot ≡ a) ⊎ IsBehindHead store store.length a
  went_slots a one = elim (slot_of_one_cases cell (store ∷ []) one) [
    | inl own ↦ inl (list_slot trim.shown.of_kind own)
    | inr rest ↦
        let same = one_in store rest.cell rest.among in
        inr (slot_of_store trim.of_kind (subst (λ (c : Cell). IsSlotOf c a) (sym same) rest.slot))
  ]

  -- the list's slot for its store
  own_slot : IsSlotOf cell (cell.at + store_slot)
  own_slot = object_store_slot cell (ap is_object_kind trim.shown.of_kind)

  -- so each address fits
  fits : (touch : ℕ → Touch) (a : ℕ) → CutTouch cell store came touch a → FitsTouch went comes a (touch a)
  fits touch a (CutTouch.slot there is) =
      subst (FitsTouch went comes a) (sym is) (
        in_first_cell cell (store ∷ []) (subst (IsOfCell cell) (sym there) (of_list 1 (omega arith))),
        slot_of_first cell pieces (subst (IsSlotOf cell) (sym there) own_slot),
      )
  fits touch a (CutTouch.count there is) =
      let of_cell : IsOfCell cell a = subst (IsOfCell cell) (sym there) (of_list 2 (omega arith)) in
      subst (FitsTouch went comes a) (sym is) (
        in_first_cell cell (store ∷ []) of_cell,
        λ one. elim (came_slots a one) [
          | inl same ↦ omega (arith, same, there)
          | inr now ↦
              let was = was_slot a now in
              apart a of_cell (of_store a (omega (arith, was.from)) was.below)
        ],
      )
  fits touch a (CutTouch.given_up from below not_now is) =
      let of_other = of_store a from below in
      subst (FitsTouch went comes a) (sym is) (
        in_one_cell store (rest_in cell (store ∷ []) store (first_in store [])) of_other,
        λ one. elim (came_slots a one) [
          | inl same ↦ apart a (subst (IsOfCell cell) same (of_list 1 (omega arith))) of_other
          | inr now ↦ not_now now
        ],
      )
  fits touch a (CutTouch.stays into is) = kept_fits went comes a (touch a) is

  -- what was kept is a slot of what came exactly where it was one of what went
  kept : (touch : ℕ → Touch) (a : ℕ) → CutTouch cell store came touch a → touch a ≡ Touch.Kept
      → IsSlotOfOne went a ↔ IsSlotOfOne comes a
  kept touch a (CutTouch.slot there is) same = let no : Touch.Stored ≡ Touch.Kept = sym is ∙ same in absurd (cc)
  kept touch a (CutTouch.count there is) same = let no : Touch.Wiped ≡ Touch.Kept = sym is ∙ same in absurd (cc)
  kept touch a (CutTouch.given_up from below not_now is) same =
      let no : Touch.Wiped ≡ Touch.Kept = sym is ∙ same in absurd (cc)
  kept touch a (CutTouch.stays into is) same = (
    λ one. elim (went_slots a one) [
      | inl own ↦ slot_of_first cell pieces (subst (IsSlotOf cell) own own_slot)
      | inr was ↦
          let there : IsSlotOf came a = store_has_slot trim.still_store (into was) in
          slot_of_rest cell pieces (record { cell = came; among = trim.among; slot = there })
    ],
    λ one. elim (came_slots a one) [
      | inl own ↦ slot_of_first cell (store ∷ []) (subst (IsSlotOf cell) own own_slot)
      | inr now ↦
          slot_of_rest cell (store ∷ [])
          (slot_of_first store [] (store_has_slot trim.of_kind (was_slot a now)))
    ],
  )

  -- so only words of these cells were touched
  pub trim_touches : (touch : ℕ → Touch) → ((a : ℕ) → CutTouch cell store came touch a)
      → TouchesBeside (eden_start old.space) 0 0 (cell ∷ store ∷ []) (cell ∷ pieces) touch
  trim_touches touch cut =
      cells_touched (eden_start old.space) 0 0 went comes touch (λ a below beside. fits touch a (cut a))
      (λ a below beside is. kept touch a (cut a) is)
