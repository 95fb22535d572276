-- Where the slots stand that are recorded: in cells of pages, or in home copies in pages.
use Rattle.std.proofs.Common.{ℕ, ◌+◌, ◌<◌, ◌≤◌, ◌≡◌, inl, inr, List, length, get_or, Some}
use Rattle.std.proofs.Common.{arith, refl, ap, ◌∙◌}
use Rattle.std.specs.List.{Contains}
use Rattle.std.proofs.lemmas.Option.{slice_get-get_or, get_or_from_slice_get}
use Rattle.tagged_word.specs.Readings.{reference_in}
use Rattle.page_space.specs.Extents.{eden_start}
use Rattle.heap_model.specs.Remembered.{RefersToYoung}
use Rattle.scav_copy.specs.declared.places.Home.{Home}
use Rattle.scav_copy.specs.Places.{Fixed, size_of, IsInCopy, StoodAt}
use Rattle.scav_copy.specs.Copies.{Copying}
use Rattle.scav_copy.proofs.Spots.{home_itself, copy_in_room, slot_in_cell, within_by}
use Rattle.scavenger.specs.Starts.{Start, IsBegun}
use Rattle.scavenger.specs.Walking.{AreKept, IsPromotedSlot, RefersToRoom}
use Rattle.scavenger.proofs.FollowTiles.{copy_in_page}
use Rattle.scavenger.proofs.TargetCells.{recorded_below, IsInNewHalf, in_half_or_page}

-- where the word at an address stays, it refers to a young cell as it did
pub young_alike : {words now : List ℕ} (eden at : ℕ) → at < length words → length now ≡ length words
    → get_or now at 0 ≡ get_or words at 0 → RefersToYoung eden words at → RefersToYoung eden now at
young_alike {words} {now} eden at within long same young = record {
  word = young.word;
  stands = slice_get-get_or now at 0 (omega (arith, within, long))
      ∙ ap (λ (word : ℕ). Some word) (same ∙ get_or_from_slice_get words at young.word 0 young.stands);
  cell = young.cell;
  refers = young.refers;
  young = young.young;
}

-- and to the half that copies go to
pub room_alike : {start : Start} {words now : List ℕ} (at : ℕ) → get_or now at 0 ≡ get_or words at 0
    → RefersToRoom start words at → RefersToRoom start now at
room_alike at same room = record {
  cell = room.cell;
  refers = ap reference_in same ∙ room.refers;
  from = room.from;
  below = room.below;
}

-- the slot of a copy in a page is live
pub promoted_live : {start : Start} {fixed : Fixed} {homes : List Home} {at : ℕ}
    → (slot : IsPromotedSlot start fixed homes at) → StoodAt fixed homes at (slot.home.from + slot.offset)
promoted_live slot = StoodAt.in_cell slot.home slot.offset slot.among slot.visited slot.stands refl

module _ {start : Start} {fixed : Fixed} (begun : IsBegun start fixed) where
  -- a home copy that begins in a page is in pages
  pub page_copy : {words : List ℕ} {homes : List Home} (home : Home) (at : ℕ) → Copying fixed words homes
      → Contains homes home → home.to < eden_start start.heap.space → IsInCopy fixed home at
      → at < eden_start start.heap.space
  page_copy home at copying there of_page inside =
      omega (arith, copy_in_page home begun copying there of_page, inside.below)

  -- one that does not begins in a segment
  pub segment_copy : {words : List ℕ} {homes : List Home} (home : Home) → Copying fixed words homes
      → Contains homes home → eden_start start.heap.space ≤ home.to → IsInNewHalf start home.to
  segment_copy home copying there young =
      elim (in_half_or_page home.to begun
      (copy_in_room home home.to copying there (home_itself home begun.laid copying there))) [
        | inl segment ↦ segment
        | inr page ↦ absurd (omega (arith, page, young))
      ]

  -- the slot of a copy in a page is in a page
  pub promoted_below : {words : List ℕ} {homes : List Home} {at : ℕ} → Copying fixed words homes
      → IsPromotedSlot start fixed homes at → at < eden_start start.heap.space
  promoted_below {at = at} copying slot =
      page_copy slot.home at copying slot.among slot.in_page
      (within_by slot.home.to (size_of fixed slot.home.from) slot.offset at
      (slot_in_cell fixed slot.home.from slot.offset slot.visited).1 slot.stands)

  -- a slot that was recorded is live
  pub recorded_live : (homes : List Home) (at : ℕ) → Contains start.recorded at → StoodAt fixed homes at at
  recorded_live homes at there = StoodAt.itself ((begun.begins.slots at).1 (inr there)) refl

  -- what is recorded is in pages
  pub kept_below : {words : List ℕ} {homes : List Home} (now : List ℕ) (at : ℕ) → Copying fixed words homes
      → AreKept start fixed words homes now → Contains now at → at < eden_start start.heap.space
  kept_below now at copying kept there = elim ((kept at).0 there) [
    | inl stood ↦ recorded_below at begun stood.0
    | inr promoted ↦ promoted_below copying promoted.0
  ]
