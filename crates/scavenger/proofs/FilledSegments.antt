-- The segments of all workers, between two slots of a scavenge: the home copies that stay young fill them.
use Rattle.std.proofs.Common.{ℕ, ◌+◌, ◌<◌, ◌≤◌, ◌≡◌, ◌⊎◌, inl, inr, List, [], ◌∷◌, ◌++◌, map, sum_by}
use Rattle.std.proofs.Common.{arith, sym, ap, subst, ◌∙◌}
use Rattle.std.specs.List.{Contains}
use Rattle.std.proofs.lemmas.Bool.{cases_lt}
use Rattle.std.proofs.lemmas.List.{map-append}
use Rattle.std.proofs.lemmas.List.Elements.{Contains-append_cases, Contains-append_left, Contains-append_right}
use Rattle.std.proofs.lemmas.List.Sums.{sum_by-append, sum_by-cons}
use Rattle.tagged_word.proofs.Members.{first_in, in_cases, one_in, in_map, map_from, in_range, range_bounds}
use Rattle.page_space.specs.Extents.{eden_start, half_segments}
use Rattle.heap_model.specs.Types.{Run}
use Rattle.heap_model.proofs.RowCovers.{from_one, of_one}
use Rattle.scav_copy.specs.declared.places.Home.{Home}
use Rattle.scav_copy.specs.Places.{Fixed, size_of, IsInCopies}
use Rattle.scav_copy.proofs.Spots.{none_in}
use Rattle.scavenger.specs.Starts.{Start, SegmentCopies, IsBegun, copying_workers, helping_workers, room_start}
use Rattle.scavenger.specs.Starts.{segment_from}
use Rattle.scavenger.specs.Filling.{Tiles, CopiesFillRooms, FillsSegment, segment_filled, homes_in, words_of_homes}
use Rattle.scavenger.specs.Filling.{words_of_segments}
use Rattle.scavenger.specs.Scavenged.{StaysIn}
use Rattle.scavenger.proofs.Sums.{few_copied}
use Rattle.scavenger.proofs.SegmentRooms.{IsInSegment, one_segment, segments_apart}
use Rattle.scavenger.proofs.ClimbingWorkers.{Climb, climb_by, one_place}
use Rattle.scavenger.proofs.FollowTiles.{tile_within, tiles_add, fill_above, copy_in_page}

-- the main side's segment, with these copies
abbrev pub main_segment : Start → List Home → SegmentCopies
main_segment start stayed = record { worker = start.heap.space.sizes.helpers; homes = stayed }

-- the segments that helpers handed over, and that of the main side
abbrev pub all_segments : Start → List Home → List SegmentCopies
all_segments start stayed = start.handed ++ main_segment start stayed ∷ []

-- a copy that stays young stands in one of these segments, which is filled up to an address behind it
pub record StaysYoung (start : Start) (fixed : Fixed) (segments : List SegmentCopies) (home : Home) : Type 0 where
  pub stays : StaysIn segments home
  pub known : stays.segment.worker < half_segments start.heap.space
  pub from : segment_from start.heap.space start.half stays.segment.worker ≤ home.to
  pub ends : home.to + size_of fixed home.from
      ≤ segment_filled start.heap.space start.half fixed stays.segment
  pub fits : words_of_homes fixed stays.segment.homes ≤ start.heap.space.sizes.young

-- one of a sum has no more than all
one_of_sum : {X : Type 0} (f : X → ℕ) (all : List X) (one : X) → Contains all one → f one ≤ sum_by f all
one_of_sum f [] one there = absurd (none_in one there)
one_of_sum {X} f (first ∷ rest) one there =
    let parts = sum_by-cons f first rest in
    elim (in_cases first rest one there) [
      | inl same ↦ subst (λ (x : X). f x ≤ sum_by f (first ∷ rest)) same (omega (arith, parts))
      | inr later ↦ omega (arith, parts, one_of_sum f rest one later)
    ]

module _ {start : Start} {fixed : Fixed} {words : List ℕ} {rows : List (List Run)} {homes : List Home} {fill : ℕ}
    (begun : IsBegun start fixed) (filled : CopiesFillRooms start fixed words rows homes fill) where
  -- there is a segment for each worker
  pub workers_are : map (λ segment. segment.worker) (all_segments start filled.stayed)
      ≡ copying_workers start.heap.space
  workers_are =
      map-append (λ (segment : SegmentCopies). segment.worker) start.handed (main_segment start filled.stayed ∷ [])
      ∙ ap (λ (workers : List ℕ). workers ++ start.heap.space.sizes.helpers ∷ []) filled.handed_by

  -- they ascend
  pub they_climb : Climb 0 (all_segments start filled.stayed)
  they_climb =
      climb_by 0 start.heap.space.sizes.helpers start.heap.space.sizes.helpers (all_segments start filled.stayed)
      (omega arith) workers_are

  -- and are of the workers
  pub segment_known : (segment : SegmentCopies) → Contains (all_segments start filled.stayed) segment
      → segment.worker < half_segments start.heap.space
  segment_known segment there =
      let helpers : ℕ = start.heap.space.sizes.helpers in
      let among : Contains (copying_workers start.heap.space) segment.worker =
      subst (λ (all : List ℕ). Contains all segment.worker) workers_are
      (in_map (λ (one : SegmentCopies). one.worker) (all_segments start filled.stayed) segment there) in
      elim (Contains-append_cases (helping_workers start.heap.space) (helpers ∷ []) segment.worker among) [
        | inl helping ↦ omega (arith, (range_bounds 0 helpers segment.worker helping).1)
        | inr main ↦ omega (arith, one_in helpers segment.worker main)
      ]

  -- each worker has one of them
  pub segment_of_worker : (worker : ℕ) → worker < half_segments start.heap.space
      → (segment : SegmentCopies) × Contains (all_segments start filled.stayed) segment × (segment.worker ≡ worker)
  segment_of_worker worker known =
      let helpers : ℕ = start.heap.space.sizes.helpers in
      let among : Contains (copying_workers start.heap.space) worker =
      elim (cases_lt worker helpers) [
        | inl less ↦
            Contains-append_left (helping_workers start.heap.space) (helpers ∷ []) worker
            (in_range 0 helpers worker (omega arith) (omega (arith, less)))
        | inr last ↦
            Contains-append_right (helping_workers start.heap.space) (helpers ∷ []) worker
            (subst (λ (n : ℕ). Contains (helpers ∷ []) n) (omega (arith, last, known)) (first_in helpers []))
      ] in
      map_from (λ (one : SegmentCopies). one.worker) (all_segments start filled.stayed) worker
      (subst (λ (all : List ℕ). Contains all worker) (sym workers_are) among)

  -- the main side's is one
  pub main_among : Contains (all_segments start filled.stayed) (main_segment start filled.stayed)
  main_among =
      Contains-append_right start.handed (main_segment start filled.stayed ∷ []) (main_segment start filled.stayed)
      (first_in (main_segment start filled.stayed) [])

  -- it is filled up to there
  pub main_filled : segment_filled start.heap.space start.half fixed (main_segment start filled.stayed) ≡ fill
  main_filled = tiles_add (room_start start.heap.space start.half) fill filled.stayed filled.tiles

  -- each is filled from its start on
  pub segment_fills : (segment : SegmentCopies) → Contains (all_segments start filled.stayed) segment
      → FillsSegment start.heap.space start.half fixed segment
  segment_fills segment there =
      let main = main_segment start filled.stayed in
      elim (Contains-append_cases start.handed (main ∷ []) segment there) [
        | inl handed ↦ filled.handed segment handed
        | inr own ↦
            subst (FillsSegment start.heap.space start.half fixed) (one_in main segment own)
            (subst (λ (end : ℕ). Tiles fixed (room_start start.heap.space start.half) end filled.stayed)
            (sym main_filled) filled.tiles)
      ]

  -- the copies in them have no more words than survivors and eden's used words together
  pub few_in_segments : words_of_segments fixed (all_segments start filled.stayed)
      ≤ start.heap.survivors + start.heap.used
  few_in_segments =
      let count : SegmentCopies → ℕ = λ segment. words_of_homes fixed segment.homes in
      let main = main_segment start filled.stayed in
      omega (
        arith,
        sum_by-append count start.handed (main ∷ []),
        sum_by-cons count main [],
        main_filled,
        filled.long,
        few_copied begun filled,
      )

  -- so no segment is passed
  pub segment_fits : (segment : SegmentCopies) → Contains (all_segments start filled.stayed) segment
      → words_of_homes fixed segment.homes ≤ start.heap.space.sizes.young
  segment_fits segment there =
      omega (
        arith,
        one_of_sum (λ (one : SegmentCopies). words_of_homes fixed one.homes) (all_segments start filled.stayed) segment
            there,
        few_in_segments,
        begun.whole.rows.few,
      )

  -- a copy in one of them stands in it
  pub stays_young : (home : Home) → StaysIn (all_segments start filled.stayed) home
      → StaysYoung start fixed (all_segments start filled.stayed) home
  stays_young home stays =
      let segment = stays.segment in
      let within = tile_within (segment_from start.heap.space start.half segment.worker)
      (segment_filled start.heap.space start.half fixed segment) segment.homes home
      (segment_fills segment stays.of_all) stays.among in
      record {
        stays = stays;
        known = segment_known segment stays.of_all;
        from = within.0;
        ends = within.1;
        fits = segment_fits segment stays.of_all;
      }

  -- it is a home copy
  pub stays_is : (home : Home) → StaysIn (all_segments start filled.stayed) home → Contains homes home
  stays_is home stays =
      let main = main_segment start filled.stayed in
      let handed : List Home = homes_in start.handed in
      elim (Contains-append_cases start.handed (main ∷ []) stays.segment stays.of_all) [
        | inl among ↦
            (filled.same home).1 (Contains-append_right filled.stayed (filled.promoted ++ handed) home
            (Contains-append_right filled.promoted handed home
            (of_one (λ (one : SegmentCopies). one.homes) start.handed stays.segment home among stays.among)))
        | inr own ↦
            (filled.same home).1 (Contains-append_left filled.stayed (filled.promoted ++ handed) home
            (subst (λ (one : SegmentCopies). Contains one.homes home) (sym (one_in main stays.segment own))
            stays.among))
      ]

  -- each home copy is one of them, or stands in a page
  pub stays_or_promoted : (home : Home) → Contains homes home
      → StaysIn (all_segments start filled.stayed) home ⊎ Contains filled.promoted home
  stays_or_promoted home there =
      let main = main_segment start filled.stayed in
      let handed : List Home = homes_in start.handed in
      elim (Contains-append_cases filled.stayed (filled.promoted ++ handed) home ((filled.same home).0 there)) [
        | inl own ↦ inl (record { segment = main; of_all = main_among; among = own })
        | inr other ↦ elim (Contains-append_cases filled.promoted handed home other) [
          | inl promoted ↦ inr promoted
          | inr of_handed ↦
              let found = from_one (λ (one : SegmentCopies). one.homes) start.handed home of_handed in
              inl (record {
                segment = found.one;
                of_all = Contains-append_left start.handed (main ∷ []) found.one found.among;
                among = found.has;
              })
        ]
      ]

  -- one that is not in a page stays young
  pub young_within : (home : Home) → Contains homes home → eden_start start.heap.space ≤ home.to
      → StaysYoung start fixed (all_segments start filled.stayed) home
  young_within home there young =
      elim (stays_or_promoted home there) [
        | inl stays ↦ stays_young home stays
        | inr promoted ↦ absurd (omega (arith, young, filled.in_pages home promoted))
      ]

  -- behind the copies of a segment no word is in a copy
  pub behind_is_free : (segment : SegmentCopies) (at : ℕ) → Contains (all_segments start filled.stayed) segment
      → segment_filled start.heap.space start.half fixed segment ≤ at
      → at < segment_from start.heap.space start.half segment.worker + start.heap.space.sizes.young
      → IsInCopies fixed homes at → ⊥
  behind_is_free segment at there from below inside =
      let space = start.heap.space in
      let home : Home = inside.0 in
      elim (stays_or_promoted home inside.1) [
        | inr promoted ↦
            let ends = copy_in_page home begun filled.copying inside.1 (filled.in_pages home promoted) in
            omega (arith, inside.2.below, ends, from)
        | inl stays ↦
            let is = stays_young home stays in
            let other = is.stays.segment in
            let one : IsInSegment space start.half segment.worker at =
            record { from = omega (arith, from); below = below } in
            let two : IsInSegment space start.half other.worker at = record {
              from = omega (arith, is.from, inside.2.from);
              below = omega (arith, is.ends, is.fits, inside.2.below);
            } in
            let same : segment ≡ other =
            one_place 0 (all_segments start filled.stayed) segment other they_climb there is.stays.of_all
            (one_segment space start.half segment.worker other.worker at one two) in
            let end : segment_filled space start.half fixed segment ≡ segment_filled space start.half fixed other =
            ap (segment_filled space start.half fixed) same in
            omega (arith, end, from, is.ends, inside.2.below)
      ]

  -- in the main side's segment it is so behind where that is filled
  pub segment_is_free : (at : ℕ) → fill ≤ at
      → at < room_start start.heap.space start.half + start.heap.space.sizes.young → IsInCopies fixed homes at → ⊥
  segment_is_free at from below =
      behind_is_free (main_segment start filled.stayed) at main_among (omega (arith, main_filled, from)) below

  -- no segment is filled up to behind the main side's copies
  pub filled_below : (segment : SegmentCopies) → Contains (all_segments start filled.stayed) segment
      → segment_filled start.heap.space start.half fixed segment ≤ fill
  filled_below segment there =
      let space = start.heap.space in
      let main = main_segment start filled.stayed in
      elim (cases_lt segment.worker space.sizes.helpers) [
        | inl less ↦
            omega (
              arith,
              segments_apart space start.half segment.worker space.sizes.helpers less,
              segment_fits segment there,
              fill_above filled,
            )
        | inr last ↦
            let same : segment ≡ main =
            one_place 0 (all_segments start filled.stayed) segment main they_climb there main_among
            (omega (arith, last, segment_known segment there)) in
            omega (arith, ap (segment_filled space start.half fixed) same, main_filled)
      ]
