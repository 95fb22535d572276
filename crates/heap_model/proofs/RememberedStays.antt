-- Where cells change, and each touch of a word was recorded, the list of slots that refer to young cells stays right.
use Rattle.std.proofs.Common.{◌≡◌, ◌≢◌, ℕ, ◌<◌, ◌≤◌, ◌⊎◌, inl, inr, List, Contains, refl, sym, ◌∙◌, ap, subst}
use Rattle.std.proofs.Common.{arith}
use Rattle.std.proofs.lemmas.Bool.{cases_lt}
use Rattle.std.proofs.lemmas.List.Elements.{Contains-append_cases, Contains-append_left, Contains-append_right}
use Rattle.tagged_word.specs.declared.layout.Kind.TheVariants as kind
use Rattle.tagged_word.specs.Cells.{scavenge_offsets_of}
use Rattle.page_space.specs.Extents.{Space, eden_start}
use Rattle.heap_model.specs.Types.{Cell}
use Rattle.heap_model.specs.Heaps.{Heap, HasCell}
use Rattle.heap_model.specs.Wholeness.{HasRows, Whole}
use Rattle.heap_model.specs.Changes.{IsFillerAt, CellsChange}
use Rattle.heap_model.specs.Remembered.{IsSlotOf, IsPageSlot, RefersToYoung, AreRemembered, Touch, IsRecordedBy}
use Rattle.heap_model.specs.Remembered.{Records, IsSlotOfOne, IsInOneOf, TouchesCells, ChangesStayRemembered}
use Rattle.heap_model.proofs.BoundHeaps.{none_in}
use Rattle.heap_model.proofs.CellsApart.{IsOfCell, cells_apart, first_of_cell}
use Rattle.heap_model.proofs.CellOutcomes.{Fate, cells_move, fate}
use Rattle.heap_model.proofs.RememberedSlots.{slot_of_cell, page_slot_below, page_slot_of_one}
use Rattle.heap_model.proofs.RememberedSlots.{refers_to_young_stays}

-- The cells of a whole heap changed, each touch of a word was recorded, and the list was right.
record Remembering (old new : Heap) (gone came made : List Cell) (were are : List ℕ) (touch : ℕ → Touch) : Type 0 where
  whole : Whole old
  rows : HasRows new
  change : CellsChange old new gone came made
  records : Records (eden_start old.space) old.words new.words were are touch
  touches : TouchesCells old gone came made touch
  right : AreRemembered old were

-- an address is in a range, or it is not
range_cases : (from to at : ℕ) → ((from ≤ at) × (at < to)) ⊎ (from ≤ at → at < to → ⊥)
range_cases from to at = elim (cases_lt at from) [
  | inl before ↦ inr (λ above below. omega (arith, before, above))
  | inr above ↦ elim (cases_lt at to) [
    | inl below ↦ inl (above, below)
    | inr behind ↦ inr (λ from_there below. omega (arith, behind, below))
  ]
]

-- a filler has no slots
slot_is_no_filler : {cell : Cell} {at : ℕ} → IsSlotOf cell at → cell.layout.kind ≢ kind.Filler
slot_is_no_filler {cell} slot filler =
    none_in slot.offset (subst (λ k. Contains (scavenge_offsets_of k cell.layout cell.length) slot.offset) filler
    slot.visited)

-- so no slot of a page is where a filler stands
slot_beside_filler : {heap : Heap} {at : ℕ} → Whole heap → IsPageSlot heap at → IsFillerAt heap at → ⊥
slot_beside_filler {heap} {at} whole slot is =
    let first = first_of_cell is.has in
    let of_filler : IsOfCell is.cell at =
    record { from = omega (arith, is.stands); below = omega (arith, first.below, is.stands) } in
    let same = cells_apart at whole.rows slot.has is.has (slot_of_cell slot.has slot.slot) of_filler in
    slot_is_no_filler slot.slot (ap (λ (one : Cell). one.layout.kind) same ∙ is.filler)

-- a slot of a cell that came is one of a page's, before eden
came_slot : {old new : Heap} {gone came made : List Cell} {were are : List ℕ} {touch : ℕ → Touch} {at : ℕ}
    → Remembering old new gone came made were are touch → at < eden_start old.space → IsSlotOfOne came at
    → IsPageSlot new at
came_slot {came = came} {made} {at = at} remembering below one =
    let change = remembering.change in
    page_slot_of_one (λ cell there. change.comes cell (Contains-append_left came made cell there))
    (subst (λ (s : Space). at < eden_start s) (sym change.same_space) below) one

-- and so is one of a cell that was made
made_slot : {old new : Heap} {gone came made : List Cell} {were are : List ℕ} {touch : ℕ → Touch} {at : ℕ}
    → Remembering old new gone came made were are touch → at < eden_start old.space → IsSlotOfOne made at
    → IsPageSlot new at
made_slot {came = came} {made} {at = at} remembering below one =
    let change = remembering.change in
    page_slot_of_one (λ cell there. change.comes cell (Contains-append_right came made cell there))
    (subst (λ (s : Space). at < eden_start s) (sym change.same_space) below) one

-- the address is in none of the words in which cells were made
abbrev IsBeside : {old : Heap} {gone came made : List Cell} {touch : ℕ → Touch}
    → TouchesCells old gone came made touch → ℕ → Type 0
IsBeside touches at = touches.from ≤ at → at < touches.to → ⊥

-- a slot of a page whose word was not touched is one again, where it is beside these
kept_slot : {old new : Heap} {gone came made : List Cell} {were are : List ℕ} {touch : ℕ → Touch} {at : ℕ}
    → (remembering : Remembering old new gone came made were are touch) → at < eden_start old.space
    → IsBeside remembering.touches at → touch at ≡ Touch.Kept → IsPageSlot old at → IsPageSlot new at
kept_slot {gone = gone} {at = at} remembering below aside kept slot =
    let change = remembering.change in
    elim (fate (cells_move change) slot.has (slot_is_no_filler slot.slot)) [
      | Fate.has_gone there ↦
          let one : IsSlotOfOne gone at = record { cell = slot.cell; among = there; slot = slot.slot } in
          came_slot remembering below ((remembering.touches.beside.kept at below aside kept).0 one)
      | Fate.stands has not_gone ↦ record {
        cell = slot.cell;
        words = slot.words;
        has = has;
        of_page = subst (λ (s : Space). slot.cell.at < eden_start s) (sym change.same_space) slot.of_page;
        slot = slot.slot;
      }
    ]

-- what is recorded beside these is a slot of a page that refers to a young cell, however it was touched
recorded_is : {old new : Heap} {gone came made : List Cell} {were are : List ℕ} {touch : ℕ → Touch} (at : ℕ)
    → (remembering : Remembering old new gone came made were are touch) → at < eden_start old.space
    → IsBeside remembering.touches at → (one : Touch) → touch at ≡ one
    → IsRecordedBy (eden_start old.space) old.words new.words were are at one → Contains are at
    → IsPageSlot new at × RefersToYoung (eden_start old.space) new.words at
recorded_is at remembering below aside Touch.Kept is by there =
    let was = (remembering.right at).0 (by.1.0 there) in
    (kept_slot remembering below aside is was.0, refers_to_young_stays by.0 was.1)
recorded_is at remembering below aside Touch.Stored is by there =
    (came_slot remembering below (remembering.touches.beside.stored at below aside is), by.0 there)
recorded_is at remembering below aside Touch.Wiped is by there = absurd (by there)

-- and so it is where cells were made: there no slot was
recorded_made : {old new : Heap} {gone came made : List Cell} {were are : List ℕ} {touch : ℕ → Touch} (at : ℕ)
    → (remembering : Remembering old new gone came made were are touch) → at < eden_start old.space
    → remembering.touches.from ≤ at → at < remembering.touches.to → (one : Touch) → touch at ≡ one
    → IsRecordedBy (eden_start old.space) old.words new.words were are at one → Contains are at
    → IsPageSlot new at × RefersToYoung (eden_start old.space) new.words at
recorded_made at remembering below from to Touch.Kept is by there =
    absurd (slot_beside_filler remembering.whole ((remembering.right at).0 (by.1.0 there)).0
    (remembering.touches.of_made.fillers at below from to))
recorded_made at remembering below from to Touch.Stored is by there =
    (made_slot remembering below (remembering.touches.of_made.stored at below from to is), by.0 there)
recorded_made at remembering below from to Touch.Wiped is by there = absurd (by there)

-- what was not touched is recorded where it was a slot of a page that refers to a young cell
kept_is_recorded : {old new : Heap} {gone came made : List Cell} {were are : List ℕ} {touch : ℕ → Touch} (at : ℕ)
    → Remembering old new gone came made were are touch
    → IsRecordedBy (eden_start old.space) old.words new.words were are at Touch.Kept → IsPageSlot old at
    → RefersToYoung (eden_start old.space) new.words at → Contains are at
kept_is_recorded at remembering by slot young =
    by.1.1 ((remembering.right at).1 (slot, refers_to_young_stays (sym by.0) young))

-- a slot of what came beside these that refers to a young cell is recorded, however it was touched
came_is_recorded : {old new : Heap} {gone came made : List Cell} {were are : List ℕ} {touch : ℕ → Touch} (at : ℕ)
    → (remembering : Remembering old new gone came made were are touch) → at < eden_start old.space
    → IsBeside remembering.touches at → (one : Touch) → touch at ≡ one
    → IsRecordedBy (eden_start old.space) old.words new.words were are at one → IsSlotOfOne came at
    → RefersToYoung (eden_start old.space) new.words at → Contains are at
came_is_recorded at remembering below aside Touch.Kept is by slot young =
    let before = (remembering.touches.beside.kept at below aside is).1 slot in
    kept_is_recorded at remembering by (page_slot_of_one remembering.change.went below before) young
came_is_recorded at remembering below aside Touch.Stored is by slot young = by.1 young
came_is_recorded at remembering below aside Touch.Wiped is by slot young =
    absurd (remembering.touches.beside.wiped at below aside is slot)

-- so is a slot of a cell that was made
made_is_recorded : {old new : Heap} {gone came made : List Cell} {were are : List ℕ} {touch : ℕ → Touch} (at : ℕ)
    → Remembering old new gone came made were are touch → at < eden_start old.space → IsSlotOfOne made at
    → RefersToYoung (eden_start old.space) new.words at → Contains are at
made_is_recorded {old} {new} {were = were} {are} at remembering below slot young =
    let By : Touch → Type 0 = IsRecordedBy (eden_start old.space) old.words new.words were are at in
    let by : By Touch.Stored =
    subst By (remembering.touches.of_made.slots at below slot) (remembering.records.each at below) in
    by.1 young

-- what came has a slot where cells were made only if it was made itself
came_is_made : {old new : Heap} {gone came made : List Cell} {were are : List ℕ} {touch : ℕ → Touch} (at : ℕ)
    → (remembering : Remembering old new gone came made were are touch) → remembering.touches.from ≤ at
    → at < remembering.touches.to → IsSlotOfOne came at → IsSlotOfOne made at
came_is_made {old} {new} {came = came} {made} at remembering from to slot =
    let change = remembering.change in
    let one = remembering.touches.of_made.covers at from to in
    let has = change.comes slot.cell (Contains-append_left came made slot.cell slot.among) in
    let has_made = change.comes one.cell (Contains-append_right came made one.cell one.among) in
    let same = cells_apart at remembering.rows has has_made (slot_of_cell has slot.slot)
    (record { from = one.from; below = one.below }) in
    record { cell = slot.cell; among = subst (Contains made) (sym same) one.among; slot = slot.slot }

-- a slot of a page of what stood and did not go
record IsSlotThatStood (old : Heap) (gone : List Cell) (at : ℕ) : Type 0 where
  slot : IsPageSlot old at
  not_gone : IsInOneOf gone at → ⊥

-- a slot of what stood and did not go is recorded where it refers to a young cell, as it was not touched
stood_is_recorded : {old new : Heap} {gone came made : List Cell} {were are : List ℕ} {touch : ℕ → Touch} (at : ℕ)
    → (remembering : Remembering old new gone came made were are touch) → at < eden_start old.space
    → IsBeside remembering.touches at → IsSlotThatStood old gone at
    → RefersToYoung (eden_start old.space) new.words at → Contains are at
stood_is_recorded {old} {new} {were = were} {are} at remembering below aside stood young =
    let By : Touch → Type 0 = IsRecordedBy (eden_start old.space) old.words new.words were are at in
    elim (remembering.touches.beside.within at below aside) [
      | inl kept ↦
          let by : By Touch.Kept = subst By kept (remembering.records.each at below) in
          kept_is_recorded at remembering by stood.slot young
      | inr gone ↦ absurd (stood.not_gone gone)
    ]

-- no word of a cell that stood and did not go is one of those that went
slot_not_gone : {old new : Heap} {gone came made : List Cell} {cell : Cell} {words : List ℕ} {at : ℕ} → Whole old
    → CellsChange old new gone came made → HasCell old cell words → (Contains gone cell → ⊥) → IsSlotOf cell at
    → IsInOneOf gone at → ⊥
slot_not_gone {gone = gone} {at = at} whole change has not_gone slot one =
    let same = cells_apart at whole.rows (change.went one.cell one.among) has
    (record { from = one.from; below = one.below }) (slot_of_cell has slot) in
    not_gone (subst (Contains gone) same one.among)

-- A slot of a page is one of what came, of what was made, or of what stood and did not go.
data SlotFrom (old : Heap) (gone came made : List Cell) (at : ℕ) : Type 0 where
  of_came : IsSlotOfOne came at → SlotFrom old gone came made at
  of_made : IsSlotOfOne made at → SlotFrom old gone came made at
  stood : IsSlotThatStood old gone at → SlotFrom old gone came made at

-- it is one of these
slot_from : {old new : Heap} {gone came made : List Cell} {at : ℕ} → Whole old → CellsChange old new gone came made
    → IsPageSlot new at → SlotFrom old gone came made at
slot_from {came = came} {made} whole change slot =
    let below = subst (λ (s : Space). slot.cell.at < eden_start s) change.same_space slot.of_page in
    elim (change.back slot.cell slot.words slot.has) [
      | inl there ↦ elim (Contains-append_cases came made slot.cell there) [
        | inl first ↦ SlotFrom.of_came (record { cell = slot.cell; among = first; slot = slot.slot })
        | inr later ↦ SlotFrom.of_made (record { cell = slot.cell; among = later; slot = slot.slot })
      ]
      | inr was ↦ SlotFrom.stood (record {
        slot = record {
          cell = slot.cell;
          words = slot.words;
          has = was.0;
          of_page = below;
          slot = slot.slot;
        };
        not_gone = slot_not_gone whole change was.0 was.1 slot.slot;
      })
    ]

-- a slot of a page that refers to a young cell is recorded, wherever it is from
slot_is_recorded : {old new : Heap} {gone came made : List Cell} {were are : List ℕ} {touch : ℕ → Touch} (at : ℕ)
    → Remembering old new gone came made were are touch → at < eden_start old.space
    → RefersToYoung (eden_start old.space) new.words at → SlotFrom old gone came made at → Contains are at
slot_is_recorded {touch = touch} at remembering below young (SlotFrom.of_came came) =
    elim (range_cases remembering.touches.from remembering.touches.to at) [
      | inl inside ↦
          made_is_recorded at remembering below (came_is_made at remembering inside.0 inside.1 came) young
      | inr aside ↦
          came_is_recorded at remembering below aside (touch at) refl (remembering.records.each at below) came young
    ]
slot_is_recorded at remembering below young (SlotFrom.of_made is) = made_is_recorded at remembering below is young
slot_is_recorded at remembering below young (SlotFrom.stood was) =
    elim (range_cases remembering.touches.from remembering.touches.to at) [
      | inl inside ↦ absurd (slot_beside_filler remembering.whole was.slot
          (remembering.touches.of_made.fillers at below inside.0 inside.1))
      | inr aside ↦ stood_is_recorded at remembering below aside was young
    ]

-- and what is recorded is such a slot
recorded_is_slot : {old new : Heap} {gone came made : List Cell} {were are : List ℕ} {touch : ℕ → Touch} (at : ℕ)
    → Remembering old new gone came made were are touch → Contains are at
    → IsPageSlot new at × RefersToYoung (eden_start old.space) new.words at
recorded_is_slot {old} {touch = touch} at remembering there =
    elim (cases_lt at (eden_start old.space)) [
      | inl below ↦ elim (range_cases remembering.touches.from remembering.touches.to at) [
        | inl inside ↦
            recorded_made at remembering below inside.0 inside.1 (touch at) refl (remembering.records.each at below)
            there
        | inr aside ↦
            recorded_is at remembering below aside (touch at) refl (remembering.records.each at below) there
      ]
      | inr beyond ↦
          let was = (remembering.right at).0 (remembering.records.beyond at beyond there) in
          absurd (omega (arith, beyond, page_slot_below was.0))
    ]

-- so the list stays right where cells change
pub changes_stay_remembered : ChangesStayRemembered
changes_stay_remembered old new gone came made were are touch whole rows change records touches right at =
    let remembering : Remembering old new gone came made were are touch =
    record { whole = whole; rows = rows; change = change; records = records; touches = touches; right = right } in
    let Refers : Space → Type 0 = λ s. RefersToYoung (eden_start s) new.words at in (
      λ there.
          let is = recorded_is_slot at remembering there in
          (is.0, subst Refers (sym change.same_space) is.1),
      λ is.
          let below = subst (λ (s : Space). at < eden_start s) change.same_space (page_slot_below is.0) in
          slot_is_recorded at remembering below (subst Refers change.same_space is.1)
          (slot_from whole change is.0),
    )
