-- What is recorded stays right where a live slot becomes the reference to a home.
use Rattle.std.proofs.Common.{ℕ, ◌<◌, ◌≤◌, ◌≡◌, ◌≢◌, ◌⊎◌, ◌↔◌, inl, inr, List, length, get_or, Some}
use Rattle.std.proofs.Common.{arith, sym, ap, subst, ◌∙◌, length-set}
use Rattle.std.specs.Prelude.{slice_set}
use Rattle.std.specs.List.{Contains}
use Rattle.std.proofs.lemmas.Bool.{cases_lt}
use Rattle.std.proofs.lemmas.Option.{slice_get-get_or, get_or_from_slice_get}
use Rattle.std.proofs.lemmas.List.{get_or-set_same}
use Rattle.tagged_word.specs.declared.word.Class.TheVariants.{Ref}
use Rattle.tagged_word.specs.Words.{bits_of}
use Rattle.tagged_word.specs.Readings.{reference_in}
use Rattle.tagged_word.proofs.Cells.{some_same}
use Rattle.tagged_word.proofs.Readings.{reference_to}
use Rattle.page_space.specs.Extents.{eden_start}
use Rattle.heap_model.specs.Remembered.{RefersToYoung}
use Rattle.scav_copy.specs.declared.places.Home.{Home}
use Rattle.scav_copy.specs.Places.{Fixed, StoodAt}
use Rattle.scav_copy.specs.Copies.{Copying}
use Rattle.scav_copy.proofs.Redirecting.{equal_or_not}
use Rattle.scav_copy.proofs.Spots.{home_fits, live_is_there, elsewhere}
use Rattle.scavenger.specs.Starts.{Start, IsBegun}
use Rattle.scavenger.specs.Walking.{AreKept, IsPromotedSlot, RefersToRoom}
use Rattle.scavenger.proofs.TargetCells.{recorded_below}
use Rattle.scavenger.proofs.KeptSpots.{young_alike, room_alike, promoted_below, segment_copy, kept_below}
use Rattle.page_space.proofs.LawsHold.{kinds_by_number}

-- What is recorded is others for one slot: one of a page is exactly where it refers to a young cell.
pub record Judges (eden : ℕ) (were are : List ℕ) (slot to : ℕ) : Type 0 where
  pub here : slot < eden → Contains are slot ↔ (eden ≤ to)
  pub others : (at : ℕ) → at ≢ slot → Contains are at ↔ Contains were at
  pub beyond : eden ≤ slot → Contains are slot → Contains were slot

-- what AreKept says of one address
abbrev pub IsKept : Start → Fixed → List ℕ → List Home → ℕ → Type 0
IsKept start fixed words homes at =
    (Contains start.recorded at × RefersToYoung (eden_start start.heap.space) words at)
    ⊎ (IsPromotedSlot start fixed homes at × RefersToRoom start words at)

-- where the word at an address stays, so does what it says
kept_alike : {start : Start} {fixed : Fixed} {words now : List ℕ} {homes : List Home} (at : ℕ) → at < length words
    → length now ≡ length words → get_or now at 0 ≡ get_or words at 0 → IsKept start fixed words homes at
    → IsKept start fixed now homes at
kept_alike {start} at within long same (inl old) =
    inl (old.0, young_alike (eden_start start.heap.space) at within long same old.1)
kept_alike at within long same (inr promoted) = inr (promoted.0, room_alike at same promoted.1)

module _ {start : Start} {fixed : Fixed} {homes : List Home} {words : List ℕ} (begun : IsBegun start fixed)
    (copying : Copying fixed words homes) where
  -- a live slot of a page is one that was recorded, or one of a copy in a page
  page_slot : (slot place : ℕ) → StoodAt fixed homes slot place → slot < eden_start start.heap.space
      → Contains start.recorded slot ⊎ IsPromotedSlot start fixed homes slot
  page_slot slot place (StoodAt.itself there same) of_page = elim ((begun.begins.slots slot).0 there) [
    | inl root ↦
        let kinds = kinds_by_number start.heap.space in
        absurd (omega (arith, root.known, root.stands, of_page, kinds.layouts, kinds.roots))
    | inr recorded ↦ inl recorded
  ]
  page_slot slot place (StoodAt.in_cell home offset there is e f) of_page = inr (record {
    home = home;
    among = there;
    in_page = omega (arith, e, of_page);
    offset = offset;
    visited = is;
    stands = e;
  })

  -- what is to be recorded is in a page
  is_kept_below : {now : List ℕ} (at : ℕ) → IsKept start fixed now homes at → at < eden_start start.heap.space
  is_kept_below at (inl old) = recorded_below at begun old.0
  is_kept_below at (inr promoted) = promoted_below begun copying promoted.0

  -- an address of a page is one of the words
  in_page_within : (at : ℕ) → at < eden_start start.heap.space → at < length words
  in_page_within at of_page =
      let old : length fixed.before ≡ length start.heap.words =
      ap (λ (all : List ℕ). length all) begun.begins.before in
      let kinds = kinds_by_number start.heap.space in
      omega (arith, of_page, old, copying.long, begun.whole.sized.words, kinds.layouts, kinds.roots, kinds.marks)

  module _ {were are : List ℕ} (slot place : ℕ) (home : Home) (stood : StoodAt fixed homes slot place)
      (there : Contains homes home) (judges : Judges (eden_start start.heap.space) were are slot home.to) where
    -- the words with the reference to the home in the slot
    abbrev now : List ℕ
    now = slice_set words slot (bits_of (Ref home.to))

    -- the slot is there
    inside : slot < length words
    inside = omega (arith, live_is_there slot place begun.laid copying stood, copying.long)

    -- it refers to the home
    refers_to : reference_in (get_or now slot 0) ≡ Some home.to
    refers_to =
        reference_to (get_or now slot 0) home.to (home_fits home begun.laid copying there)
        (get_or-set_same words slot (bits_of (Ref home.to)) 0 inside)

    -- so it refers to a young cell where the home is young
    slot_young : eden_start start.heap.space ≤ home.to → RefersToYoung (eden_start start.heap.space) now slot
    slot_young young = record {
      word = get_or now slot 0;
      stands = slice_get-get_or now slot 0
          (omega (arith, inside, length-set words slot (bits_of (Ref home.to))));
      cell = home.to;
      refers = refers_to;
      young = young;
    }

    -- and to the segment
    slot_room : eden_start start.heap.space ≤ home.to → RefersToRoom start now slot
    slot_room young =
        let segment = segment_copy begun home copying there young in
        record { cell = home.to; refers = refers_to; from = segment.from; below = segment.below }

    -- and else it does not
    young_slot : RefersToYoung (eden_start start.heap.space) now slot → eden_start start.heap.space ≤ home.to
    young_slot young =
        let word : get_or now slot 0 ≡ young.word = get_or_from_slice_get now slot young.word 0 young.stands in
        let same : home.to ≡ young.cell = some_same refers_to (ap reference_in word ∙ young.refers) in
        omega (arith, same, young.young)

    -- what is recorded of the slot is right
    slot_kept : slot < eden_start start.heap.space → Contains are slot ↔ IsKept start fixed now homes slot
    slot_kept of_page = (
      λ is. let young = (judges.here of_page).0 is in
          elim (page_slot slot place stood of_page) [
            | inl recorded ↦ inl (recorded, slot_young young)
            | inr promoted ↦ inr (promoted, slot_room young)
          ],
      λ kept. elim kept [
        | inl old ↦ (judges.here of_page).1 (young_slot old.1)
        | inr promoted ↦
            let same : home.to ≡ promoted.1.cell = some_same refers_to promoted.1.refers in
            (judges.here of_page).1 (omega (arith, same, promoted.1.from))
      ],
    )

    -- and so is what is recorded of another address
    other_kept : AreKept start fixed words homes were → (at : ℕ) → at ≢ slot
        → Contains are at ↔ IsKept start fixed now homes at
    other_kept kept at apart =
        let same : get_or now at 0 ≡ get_or words at 0 =
        elsewhere words slot (bits_of (Ref home.to)) at apart in
        let long : length now ≡ length words = length-set words slot (bits_of (Ref home.to)) in
        let below : at < eden_start start.heap.space → at < length words = in_page_within at in (
          λ is.
              let was : Contains were at = (judges.others at apart).0 is in
              kept_alike at (below (kept_below begun were at copying kept was)) long same ((kept at).0 was),
          λ is.
              let within = below (is_kept_below at is) in
              (judges.others at apart).1
              ((kept at).1 (kept_alike at (omega (arith, within, long)) (sym long) (sym same) is)),
        )

    -- so what is recorded stays right
    pub kept_slot : AreKept start fixed words homes were → AreKept start fixed now homes are
    kept_slot kept at = elim (equal_or_not at slot) [
      | inr apart ↦ other_kept kept at apart
      | inl same ↦
          let Right : ℕ → Type 0 = λ one. Contains are one ↔ IsKept start fixed now homes one in
          subst Right (sym same) (elim (cases_lt slot (eden_start start.heap.space)) [
            | inl of_page ↦ slot_kept of_page
            | inr beyond ↦ (
              λ is. absurd
                  (omega (arith, kept_below begun were slot copying kept (judges.beyond beyond is), beyond)),
              λ is. absurd (omega (arith, is_kept_below slot is, beyond)),
            )
          ])
    ]
