-- The segments at the end of a scavenge: those of the filled half have their copies in a row, with a 0 behind, where
-- they go on; those of the half that was left begin with a 0.
use Rattle.std.proofs.Common.{◌≡◌, ℕ, ◌+◌, ◌<◌, ◌≤◌, ◌⊎◌, inl, inr, List, [], ◌∷◌, Contains, Some, slice_get, length}
use Rattle.std.proofs.Common.{refl, sym, ◌∙◌, ap, subst, arith}
use Rattle.std.proofs.lemmas.Bool.{cases_lt}
use Rattle.std.proofs.lemmas.Option.{slice_get-get_or}
use Rattle.std.proofs.lemmas.List.Elements.{Contains-append_cases}
use Rattle.tagged_word.proofs.Members.{in_map, map_from, one_in}
use Rattle.page_space.specs.declared.region.Region.TheVariants.{Segment}
use Rattle.page_space.specs.Extents.{Extent, ContainsAddress, IsRegion, half_segments}
use Rattle.page_space.proofs.Placed.{placed}
use Rattle.page_space.proofs.Standing.{start_of, length_of}
use Rattle.heap_model.specs.Types.{Cell, Run}
use Rattle.heap_model.specs.Heaps.{cell_extents}
use Rattle.heap_model.proofs.CellsApart.{cell_extent_stands}
use Rattle.scav_copy.specs.declared.places.Home.{Home}
use Rattle.scav_copy.specs.Places.{Fixed}
use Rattle.scav_copy.proofs.Spots.{home_itself}
use Rattle.scavenger.specs.Starts.{Start, SegmentCopies, room_start, segment_from}
use Rattle.scavenger.specs.Filling.{StandsIn, segment_filled}
use Rattle.scavenger.specs.Following.{half_start, half_end}
use Rattle.scavenger.proofs.SegmentRooms.{IsInSegment, segment_in_half, segments_apart, one_segment, half_is_room}
use Rattle.scavenger.proofs.FollowTiles.{fill_above}
use Rattle.scavenger.proofs.ClimbingWorkers.{one_place}
use Rattle.scavenger.proofs.FilledSegments.{StaysYoung, main_segment, main_filled, segment_known, segment_fills}
use Rattle.scavenger.proofs.FilledSegments.{segment_fits, they_climb}
use Rattle.scavenger.proofs.HandedStays.{handed_known}
use Rattle.scavenger.proofs.EndRanges.{segment_starts}
use Rattle.scavenger.proofs.EndWords.{Ending, end_segments, the_halves, stays_in_half, stayed_is, kept}
use Rattle.scavenger.proofs.EndCopies.{CopyRow, copy_row}

module _ {start : Start} {left : ℕ} {fixed : Fixed} {homes : List Home} {rows : List (List Run)} {words now : List ℕ}
    {fill : ℕ} (ending : Ending start left fixed homes rows words now fill) where
  -- the copies in a segment stand in a row from its start on
  pub segment_copies : (segment : SegmentCopies) → Contains (end_segments ending) segment
      → CopyRow start.heap.space now (segment_from start.heap.space start.half segment.worker)
      (segment_filled start.heap.space start.half fixed segment) segment.homes
  segment_copies segment there =
      copy_row ending segment.homes (segment_fills ending.begun ending.filled segment there)
      (λ home among. (stayed_is ending home (record { segment = segment; of_all = there; among = among })).0)

  -- and each home copy of the segment is one of them
  pub copy_to : (segment : SegmentCopies) (there : Contains (end_segments ending) segment) (home : Home)
      → Contains segment.homes home → StandsIn (segment_copies segment there).cells home.to
  copy_to segment there home has =
      let row = segment_copies segment there in
      let at_cell = subst (λ all. Contains all home.to) (sym row.stand)
      (in_map (λ (one : Home). one.to) segment.homes home has) in
      let found = map_from (λ (cell : Cell). cell.at) row.cells home.to at_cell in
      record { cell = found.0; among = found.1; stands = found.2 }

  -- no region that begins before the half, or is of the other one, has a segment's start
  pub no_segment_starts : (at : ℕ) → (at < half_start start.heap.space start.half)
      ⊎ (half_end start.heap.space start.half ≤ at) → (segment : SegmentCopies)
      → Contains (end_segments ending) segment → at ≡ segment_from start.heap.space start.half segment.worker → ⊥
  no_segment_starts at outside segment there same =
      let some = ending.limits.young_is_least in
      let within = segment_in_half start.heap.space start.half segment.worker
      (segment_known ending.begun ending.filled segment there) in
      elim outside [
        | inl before ↦ omega (arith, before, same, within.0)
        | inr behind ↦ omega (arith, behind, same, within.1, some)
      ]

  -- the extent of a segment begins where the segment does
  pub starts_there : (extent : Extent) (half worker : ℕ) → Contains (cell_extents start.heap.space) extent
      → extent.region ≡ Segment half worker
      → (extent.start ≡ segment_from start.heap.space half worker) × (extent.words ≡ start.heap.space.sizes.young)
      × (half ≤ 1) × (worker < half_segments start.heap.space)
  starts_there extent half worker among is =
      let space = start.heap.space in
      let place = placed space extent (cell_extent_stands space extent among) in
      let region : IsRegion space (Segment half worker) = subst (IsRegion space) is place.is_region in (
        ap (λ (one : Extent). one.start) place.place ∙ ap (start_of space) is
            ∙ segment_starts space half worker,
        ap (λ (one : Extent). one.words) place.place ∙ ap (length_of space) is,
        omega (arith, region.0),
        omega (arith, region.1),
      )

  -- a copy that stands in the extent of a segment is one of this segment
  pub copy_of_segment : (segment : SegmentCopies) (home : Home) → Contains (end_segments ending) segment
      → IsInSegment start.heap.space start.half segment.worker home.to
      → (stays : StaysYoung start fixed (end_segments ending) home) → Contains homes home
      → Contains segment.homes home
  copy_of_segment segment home there inside stays is =
      let first = home_itself home ending.begun.laid ending.filled.copying is in
      let two : IsInSegment start.heap.space start.half stays.stays.segment.worker home.to =
      record { from = stays.from; below = omega (arith, stays.ends, stays.fits, first.below) } in
      let same : stays.stays.segment ≡ segment =
      one_place 0 (end_segments ending) stays.stays.segment segment (they_climb ending.begun ending.filled)
      stays.stays.of_all there
      (one_segment start.heap.space start.half stays.stays.segment.worker segment.worker home.to two inside) in
      subst (λ (one : SegmentCopies). Contains one.homes home) same stays.stays.among

  -- a word behind the copies of a helper is as it was before words were emptied
  handed_kept : (segment : SegmentCopies) → Contains start.handed segment
      → segment_filled start.heap.space start.half fixed segment
      < segment_from start.heap.space start.half segment.worker + start.heap.space.sizes.young
      → slice_get now (segment_filled start.heap.space start.half fixed segment) ≡ Some 0
  handed_kept segment there below =
      let space = start.heap.space in
      let at : ℕ = segment_filled space start.half fixed segment in
      let helping = handed_known ending.begun ending.filled segment there in
      let before : at < room_start space start.half =
      omega (arith, segments_apart space start.half segment.worker space.sizes.helpers helping, below) in
      let within = segment_in_half space start.half segment.worker (omega (arith, helping)) in
      let filled = fill_above ending.filled in
      let room = ending.begun.laid.rooms_there at (half_is_room ending.begun.begins at (omega (arith, within.0))
      (omega (arith, within.1, below))) in
      let there_is : at < length words = omega (arith, room, ending.filled.copying.long) in
      kept ending at (inl (λ same. omega (arith, same, before, filled)))
      (elim (the_halves ending).apart [
        | inl first ↦ inl (omega (arith, first, within.1, below))
        | inr last ↦ inr (omega (arith, last, within.0))
      ])
      ∙ slice_get-get_or words at 0 there_is
      ∙ ap (λ (word : ℕ). Some word) (ending.filled.behind segment there below)

  -- so behind the copies of any segment, where that goes on, a 0 stands
  end_is_0 : (segment : SegmentCopies) → Contains (end_segments ending) segment
      → segment_filled start.heap.space start.half fixed segment
      < segment_from start.heap.space start.half segment.worker + start.heap.space.sizes.young
      → slice_get now (segment_filled start.heap.space start.half fixed segment) ≡ Some 0
  end_is_0 segment there below =
      let main = main_segment start ending.filled.stayed in
      elim (Contains-append_cases start.handed (main ∷ []) segment there) [
        | inl handed ↦ handed_kept segment handed below
        | inr own ↦
            let same : main ≡ segment = one_in main segment own in
            let filled = main_filled ending.begun ending.filled in
            let at : segment_filled start.heap.space start.half fixed segment ≡ fill =
            ap (segment_filled start.heap.space start.half fixed) (sym same) ∙ filled in
            let from = ap (λ (one : SegmentCopies). segment_from start.heap.space start.half one.worker) same in
            ap (slice_get now) at ∙ ending.emptied.behind (omega (arith, at, from, below))
      ]

  -- where the segment goes on behind its copies, a 0 stands
  pub ends_with_0 : (segment : SegmentCopies) → Contains (end_segments ending) segment → (extent : Extent)
      → segment_from start.heap.space start.half segment.worker ≡ extent.start
      → extent.words ≡ start.heap.space.sizes.young
      → (segment_filled start.heap.space start.half fixed segment ≡ extent.start + extent.words)
      ⊎ (slice_get now (segment_filled start.heap.space start.half fixed segment) ≡ Some 0)
  ends_with_0 segment there extent from long =
      let space = start.heap.space in
      let fits = segment_fits ending.begun ending.filled segment there in
      elim (cases_lt (segment_filled space start.half fixed segment)
      (segment_from space start.half segment.worker + space.sizes.young)) [
        | inl below ↦ inr (end_is_0 segment there below)
        | inr past ↦ inl (omega (arith, past, from, long, fits))
      ]

  -- no copy stands in a segment of the half that was left
  pub not_in_left : (home : Home) → Contains homes home → StaysYoung start fixed (end_segments ending) home
      → (extent : Extent) {worker : ℕ} → extent.start ≡ segment_from start.heap.space left worker
      → extent.words ≡ start.heap.space.sizes.young → worker < half_segments start.heap.space
      → ContainsAddress extent home.to → ⊥
  not_in_left home there stays extent {worker} starts long known holds =
      let space = start.heap.space in
      let within = segment_in_half space left worker known in
      let own = stays_in_half ending home stays in
      let first = home_itself home ending.begun.laid ending.filled.copying there in
      elim (the_halves ending).apart [
        | inl before ↦ omega (arith, before, within.0, starts, holds.from, own.1, first.below)
        | inr behind ↦ omega (arith, behind, within.1, starts, long, holds.below, own.0)
      ]

  -- each segment of the half that was left begins with a 0
  pub begins_empty : (extent : Extent) (worker : ℕ) → Contains (cell_extents start.heap.space) extent
      → extent.region ≡ Segment left worker → slice_get now extent.start ≡ Some 0
  begins_empty extent worker among is =
      ending.emptied.starts extent.start (
        worker,
        record {
          extent = extent;
          stands = cell_extent_stands start.heap.space extent among;
          of_region = is;
          starts = refl;
        },
      )
