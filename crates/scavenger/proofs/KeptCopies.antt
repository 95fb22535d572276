-- What is recorded stays right where a cell is copied.
use Rattle.std.proofs.Common.{ℕ, ◌+◌, ◌<◌, ◌≤◌, ◌≡◌, ◌≢◌, ◌⊎◌, ◌↔◌, inl, inr, List, length, get_or}
use Rattle.std.proofs.Common.{arith, sym, ap, subst, ◌∙◌}
use Rattle.std.specs.List.{Contains}
use Rattle.std.proofs.lemmas.Bool.{cases_lt}
use Rattle.page_space.specs.Extents.{eden_start}
use Rattle.heap_model.specs.Remembered.{RefersToYoung}
use Rattle.scav_copy.specs.declared.places.Home.{Home}
use Rattle.scav_copy.specs.Places.{Fixed, size_of, offsets_of, IsOfCell, IsInCopies, IsInRooms, StoodAt, IsLaidOut}
use Rattle.scav_copy.specs.Copies.{Copying, with_home}
use Rattle.scav_copy.proofs.Spots.{cell_itself, live_in_no_cell, live_is_there, slot_in_cell, within_by}
use Rattle.scav_copy.proofs.Ascending.{joined_is, old_in}
use Rattle.scavenger.specs.Starts.{Start, IsBegun}
use Rattle.scavenger.specs.Walking.{AreKept, IsPromotedSlot, RefersToRoom}
use Rattle.scavenger.proofs.TargetCells.{recorded_below}
use Rattle.scavenger.proofs.KeptSpots.{young_alike, room_alike, promoted_live, promoted_below, recorded_live}

-- the address is before a stretch or behind it
abbrev pub IsBeside : ℕ → ℕ → ℕ → Type 0
IsBeside from to at = (at < from) ⊎ (to ≤ at)

-- Of the words only those of a stretch are others, which is in rooms and in no home copy, and the first word of a cell.
pub record Spares (fixed : Fixed) (homes : List Home) (words now : List ℕ) (cell from to : ℕ) : Type 0 where
  pub long : length now ≡ length words
  pub among : Contains fixed.cells cell
  pub in_rooms : (at : ℕ) → from ≤ at → at < to → IsInRooms fixed at
  pub apart : (at : ℕ) → from ≤ at → at < to → IsInCopies fixed homes at → ⊥
  pub others : (at : ℕ) → IsBeside from to at → at ≢ cell → get_or now at 0 ≡ get_or words at 0

module _ {fixed : Fixed} {homes : List Home} {words now : List ℕ} {cell from to : ℕ} (laid : IsLaidOut fixed)
    (copying : Copying fixed words homes) (spares : Spares fixed homes words now cell from to) where
  -- a live slot is in no such stretch
  live_not_in : (slot place : ℕ) → StoodAt fixed homes slot place → from ≤ slot → slot < to → ⊥
  live_not_in slot place (StoodAt.itself there same) begins ends =
      laid.slot_in_no_room slot there (spares.in_rooms slot begins ends)
  live_not_in slot place (StoodAt.in_cell home offset there is e f) begins ends =
      spares.apart slot begins ends (
        home,
        there,
        within_by home.to (size_of fixed home.from) offset slot (slot_in_cell fixed home.from offset is).1 e,
      )

  -- it is beside it
  pub live_beside : (slot place : ℕ) → StoodAt fixed homes slot place → IsBeside from to slot
  live_beside slot place stood = elim (cases_lt slot from) [
    | inl before ↦ inl before
    | inr begins ↦ elim (cases_lt slot to) [
      | inl ends ↦ absurd (live_not_in slot place stood begins ends)
      | inr behind ↦ inr behind
    ]
  ]

  -- so its word stays
  pub live_spared : (slot place : ℕ) → StoodAt fixed homes slot place → get_or now slot 0 ≡ get_or words slot 0
  live_spared slot place stood =
      spares.others slot (live_beside slot place stood) (λ same.
      live_in_no_cell slot place laid copying stood
      (cell, spares.among, subst (IsOfCell fixed cell) (sym same) (cell_itself cell laid spares.among)))

-- What is recorded of pages is others only in the stretch, of which nothing is.
pub record Rerecords (eden : ℕ) (were are : List ℕ) (from to : ℕ) : Type 0 where
  pub stays : (at : ℕ) → at < eden → IsBeside from to at → Contains are at ↔ Contains were at
  pub wiped : (at : ℕ) → at < eden → from ≤ at → at < to → Contains are at → ⊥
  pub beyond : (at : ℕ) → eden ≤ at → Contains are at → Contains were at

module _ {start : Start} {fixed : Fixed} {homes : List Home} {words now were are : List ℕ} {cell from to : ℕ}
    (begun : IsBegun start fixed) (copying : Copying fixed words homes)
    (spares : Spares fixed homes words now cell from to)
    (records : Rerecords (eden_start start.heap.space) were are from to) (place : ℕ)
    (fresh : (offset : ℕ) → Contains (offsets_of fixed cell) offset → place < eden_start start.heap.space
    → RefersToRoom start now (place + offset) → ⊥) where
  -- the homes with that of the cell
  abbrev more_homes : List Home
  more_homes = with_home homes (record { from = cell; to = place })

  -- a slot of a copy in a page that refers to the segment is one of a copy of before
  promoted_was : (at : ℕ) → IsPromotedSlot start fixed more_homes at → RefersToRoom start now at
      → IsPromotedSlot start fixed homes at
  promoted_was at slot room = elim (joined_is homes (record { from = cell; to = place }) slot.home slot.among) [
    | inl same ↦
        let stands : place + slot.offset ≡ at = ap (λ (home : Home). home.to + slot.offset) same ∙ slot.stands in
        absurd (fresh slot.offset
        (subst (λ (home : Home). Contains (offsets_of fixed home.from) slot.offset) (sym same) slot.visited)
        (subst (λ (home : Home). home.to < eden_start start.heap.space) (sym same) slot.in_page)
        (subst (RefersToRoom start now) (sym stands) room))
    | inr among ↦ record {
      home = slot.home;
      among = among;
      in_page = slot.in_page;
      offset = slot.offset;
      visited = slot.visited;
      stands = slot.stands;
    }
  ]

  -- a slot of a copy of before is one still
  promoted_still : (at : ℕ) → IsPromotedSlot start fixed homes at → IsPromotedSlot start fixed more_homes at
  promoted_still at slot = record {
    home = slot.home;
    among = old_in homes (record { from = cell; to = place }) slot.home slot.among;
    in_page = slot.in_page;
    offset = slot.offset;
    visited = slot.visited;
    stands = slot.stands;
  }

  -- the word of a live slot, and that it is there
  same_live : (at place : ℕ) → StoodAt fixed homes at place
      → (get_or now at 0 ≡ get_or words at 0) × (at < length words)
  same_live at place stood = (
    live_spared begun.laid copying spares at place stood,
    omega (arith, live_is_there at place begun.laid copying stood, copying.long),
  )

  -- what is recorded then is right
  kept_then : AreKept start fixed words homes were → (at : ℕ) → Contains are at
      → (Contains start.recorded at × RefersToYoung (eden_start start.heap.space) now at)
      ⊎ (IsPromotedSlot start fixed more_homes at × RefersToRoom start now at)
  kept_then kept at there =
      let stood : Contains were at = elim (cases_lt at (eden_start start.heap.space)) [
        | inr beyond ↦ records.beyond at beyond there
        | inl of_page ↦ elim (cases_lt at from) [
          | inl before ↦ (records.stays at of_page (inl before)).0 there
          | inr begins ↦ elim (cases_lt at to) [
            | inl ends ↦ absurd (records.wiped at of_page begins ends there)
            | inr behind ↦ (records.stays at of_page (inr behind)).0 there
          ]
        ]
      ] in
      elim ((kept at).0 stood) [
        | inl old ↦
            let same = same_live at at (recorded_live begun homes at old.0) in
            inl (old.0, young_alike (eden_start start.heap.space) at same.1 spares.long same.0 old.1)
        | inr promoted ↦
            let slot = promoted.0 in
            let same = same_live at (slot.home.from + slot.offset) (promoted_live slot) in
            inr (promoted_still at slot, room_alike at same.0 promoted.1)
      ]

  -- what was recorded of a live slot in a page is recorded still
  still_recorded : (at place : ℕ) → at < eden_start start.heap.space → StoodAt fixed homes at place
      → Contains were at → Contains are at
  still_recorded at place below stood =
      (records.stays at below (live_beside begun.laid copying spares at place stood)).1

  -- and all that is to be recorded is
  then_kept : AreKept start fixed words homes were → (at : ℕ)
      → (Contains start.recorded at × RefersToYoung (eden_start start.heap.space) now at)
      ⊎ (IsPromotedSlot start fixed more_homes at × RefersToRoom start now at)
      → Contains are at
  then_kept kept at (inl old) =
      let live = recorded_live begun homes at old.0 in
      let same = same_live at at live in
      let within : at < length now = omega (arith, same.1, spares.long) in
      still_recorded at at (recorded_below at begun old.0) live
      ((kept at).1 (inl (
        old.0,
        young_alike (eden_start start.heap.space) at within (sym spares.long) (sym same.0)
            old.1,
      )))
  then_kept kept at (inr promoted) =
      let slot = promoted_was at promoted.0 promoted.1 in
      let live = promoted_live slot in
      let same = same_live at (slot.home.from + slot.offset) live in
      still_recorded at (slot.home.from + slot.offset) (promoted_below begun copying slot) live
      ((kept at).1 (inr (slot, room_alike at (sym same.0) promoted.1)))

  -- so what is recorded stays right
  pub kept_copy : AreKept start fixed words homes were → AreKept start fixed now more_homes are
  kept_copy kept at = (kept_then kept at, then_kept kept at)
