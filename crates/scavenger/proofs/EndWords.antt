-- The words that a scavenge comes to, where it has come to its end: which of them are as before.
use Rattle.std.proofs.Common.{◌≡◌, ◌≢◌, ℕ, ◌+◌, ◌<◌, ◌≤◌, ◌⊎◌, inl, inr, List, length, Contains, Some, slice_get}
use Rattle.std.proofs.Common.{get_or, sym, ◌∙◌, ap, arith}
use Rattle.std.proofs.lemmas.Bool.{cases_lt}
use Rattle.std.proofs.lemmas.Option.{slice_get-get_or, slice_get_past, get_or_from_slice_get}
use Rattle.page_space.specs.Extents.{eden_start, roots_start}
use Rattle.page_space.specs.RegionLaws.{IsSpace}
use Rattle.heap_model.specs.Types.{Cell, Run}
use Rattle.heap_model.specs.Heaps.{Heap, HasCell}
use Rattle.heap_model.proofs.CellsApart.{IsOfCell, used_few}
use Rattle.heap_model.proofs.WordsAlike.{cell_below_roots}
use Rattle.scav_copy.specs.declared.places.Home.{Home}
use Rattle.scav_copy.specs.declared.places.Room.{Room}
use Rattle.scav_copy.specs.Places.{Fixed, size_of, IsInCells, IsInRooms}
use Rattle.scav_copy.specs.Renamings.{Renaming, Outside}
use Rattle.scav_copy.specs.Copies.{AreHoused, HomesDisjoint, LiesInRoom}
use Rattle.scav_copy.proofs.Ending.{end_is_renaming}
use Rattle.scavenger.specs.Starts.{Start, SegmentCopies, IsBegun, IsFreeRun, IsRootAt, room_start, room_of_run}
use Rattle.scavenger.specs.Starts.{segment_from}
use Rattle.scavenger.specs.Filling.{CopiesFillRooms, AllAreDone, IsEmptied}
use Rattle.scavenger.specs.Following.{half_start, half_end}
use Rattle.scavenger.specs.Scavenged.{StaysIn}
use Rattle.scavenger.proofs.SegmentRooms.{segment_in_half}
use Rattle.scavenger.proofs.Sums.{few_filled}
use Rattle.scavenger.proofs.TargetCells.{IsInNewHalf, segment_in_new, young_size, recorded_below, run_ends}
use Rattle.scavenger.proofs.PagesRuns.{HasRun}
use Rattle.scavenger.proofs.FollowTiles.{fill_above}
use Rattle.scavenger.proofs.FilledSegments.{StaysYoung, all_segments, stays_young, stays_is, stays_or_promoted}
use Rattle.scavenger.proofs.FilledSegments.{young_within}
use Rattle.scavenger.proofs.EndRanges.{AreHalves, are_halves, start_within}

-- all is done, and the words that are left were emptied
pub record Ending (start : Start) (left : ℕ) (fixed : Fixed) (homes : List Home) (rows : List (List Run))
    (words now : List ℕ) (fill : ℕ) : Type 0 where
  pub limits : IsSpace start.heap.space
  pub halves : start.half + left ≡ 1
  pub begun : IsBegun start fixed
  pub filled : CopiesFillRooms start fixed words rows homes fill
  pub done : AllAreDone fixed words homes
  pub emptied : IsEmptied start.heap.space left fill
      (room_start start.heap.space start.half + start.heap.space.sizes.young) words now

-- equal words, as they are found
same_found : (words other : List ℕ) (at : ℕ) → length other ≡ length words → get_or other at 0 ≡ get_or words at 0
    → slice_get other at ≡ slice_get words at
same_found words other at long same =
    elim (cases_lt at (length words)) [
      | inl below ↦
          slice_get-get_or other at 0 (omega arith) ∙ ap (λ (word : ℕ). Some word) same
          ∙ sym (slice_get-get_or words at 0 below)
      | inr past ↦ slice_get_past other at (omega arith) ∙ sym (slice_get_past words at past)
    ]

-- and as they are read
pub same_read : (words other : List ℕ) (at place : ℕ) → length other ≡ length words → at < length words
    → slice_get other at ≡ slice_get words place → get_or other at 0 ≡ get_or words place 0
same_read words other at place long below same =
    sym (get_or_from_slice_get words place (get_or other at 0) 0
    (sym same ∙ slice_get-get_or other at 0 (omega arith)))

-- a young cell of the heap has the address
pub record IsOfSomeYoung (heap : Heap) (at : ℕ) : Type 0 where
  pub cell : Cell
  pub words : List ℕ
  pub has : HasCell heap cell words
  pub young : eden_start heap.space ≤ cell.at
  pub of_cell : IsOfCell cell at

-- the copy stands in what was a free run
pub record IsPromoted (start : Start) (fixed : Fixed) (home : Home) : Type 0 where
  pub below : home.to < eden_start start.heap.space
  pub run : Run
  pub is : IsFreeRun start.rows run
  pub from : run.at ≤ home.to
  pub ends : home.to + size_of fixed home.from ≤ run.at + run.words

module _ {start : Start} {left : ℕ} {fixed : Fixed} {homes : List Home} {rows : List (List Run)} {words now : List ℕ}
    {fill : ℕ} (ending : Ending start left fixed homes rows words now fill) where
  -- what the end is, before words are emptied
  pub ended : Renaming fixed words homes × Outside fixed words × AreHoused fixed homes × HomesDisjoint fixed homes
  ended = end_is_renaming fixed words homes ending.begun.laid ending.filled.copying ending.done

  -- where the halves stand
  pub the_halves : AreHalves start.heap.space start.half left
  the_halves = are_halves start.heap.space start.half left ending.halves

  -- there are as many words as before
  pub as_long : length words ≡ length start.heap.words
  as_long = ending.filled.copying.long ∙ ap (λ (all : List ℕ). length all) ending.begun.begins.before

  -- and after some were emptied
  pub long : length now ≡ length start.heap.words
  long = ending.emptied.count ∙ as_long

  -- there are so few copies that they end in the segment
  pub few : fill ≤ room_start start.heap.space start.half + (start.heap.survivors + start.heap.used)
  few = few_filled ending.begun ending.filled

  -- the main side's segment is not passed
  pub in_room : fill ≤ room_start start.heap.space start.half + start.heap.space.sizes.young
  in_room = omega (arith, few, ending.begun.whole.rows.few)

  -- the segments of all workers
  abbrev pub end_segments : List SegmentCopies
  end_segments = all_segments start ending.filled.stayed

  -- a copy in one of them lies in the half
  pub stays_in_half : (home : Home) (is : StaysYoung start fixed end_segments home)
      → (half_start start.heap.space start.half ≤ home.to)
      × (home.to + size_of fixed home.from ≤ half_end start.heap.space start.half)
  stays_in_half home is =
      let within = segment_in_half start.heap.space start.half is.stays.segment.worker is.known in
      (omega (arith, within.0, is.from), omega (arith, within.1, is.ends, is.fits))

  -- a room before eden is a free run
  room_in_page : (home : Home) (room : Room) → LiesInRoom fixed room home.to (size_of fixed home.from)
      → home.to < eden_start start.heap.space → IsPromoted start fixed home
  room_in_page home room lies below =
      elim ((ending.begun.begins.rooms room).0 lies.among) [
        | inl segment ↦
            let from : room.from ≡ segment_from start.heap.space start.half segment.worker =
            ap (λ (one : Room). one.from) segment.is in
            absurd (omega (arith, lies.from, from, below))
        | inr run ↦
            let same : room ≡ room_of_run start.heap.space run.0 = run.2 in
            record {
              below = below;
              run = run.0;
              is = run.1;
              from = omega (arith, lies.from, ap (λ (one : Room). one.from) same);
              ends = omega (arith, lies.ends, ap (λ (one : Room). one.to) same);
            }
      ]

  -- one that is in a page is in what was a free run
  pub is_promoted : (home : Home) → Contains homes home → home.to < eden_start start.heap.space
      → IsPromoted start fixed home
  is_promoted home there below =
      let housed = ending.filled.copying.housed home there in room_in_page home housed.0 housed.1 below

  -- each home copy stands in a segment, or in what was a free run
  pub home_place : (home : Home) → Contains homes home
      → StaysYoung start fixed end_segments home ⊎ IsPromoted start fixed home
  home_place home there =
      elim (stays_or_promoted ending.begun ending.filled home there) [
        | inl stays ↦ inl (stays_young ending.begun ending.filled home stays)
        | inr promoted ↦ inr (is_promoted home there (ending.filled.in_pages home promoted))
      ]

  -- each of those in a segment is a home copy, and begins behind the pages
  pub stayed_is : (home : Home) → StaysIn end_segments home
      → Contains homes home × (eden_start start.heap.space ≤ home.to)
  stayed_is home stays =
      let young = stays_young ending.begun ending.filled home stays in
      (stays_is ending.begun ending.filled home stays, omega (arith, young.from))

  -- and each home copy that begins there is one of those
  pub is_stayed : (home : Home) → Contains homes home → eden_start start.heap.space ≤ home.to
      → StaysIn end_segments home
  is_stayed home there young = (young_within ending.begun ending.filled home there young).stays

  -- a word that was not emptied is as it was
  pub kept : (at : ℕ) → at ≢ fill ⊎ (room_start start.heap.space start.half + start.heap.space.sizes.young ≤ at)
      → (at < half_start start.heap.space left) ⊎ (half_end start.heap.space left ≤ at)
      → slice_get now at ≡ slice_get words at
  kept at apart outside =
      ending.emptied.others at
      (λ here. elim apart [ inl other ↦ other here.0 | inr behind ↦ omega (arith, here.0, here.1, behind) ])
      (λ starts.
      let within = start_within start.heap.space left at starts in
      elim outside [
        | inl before ↦ omega (arith, within.0, before)
        | inr behind ↦ omega (arith, within.1, behind, ending.limits.young_is_least)
      ])

  -- so is a word of a page, or behind the segments
  pub kept_apart : (at : ℕ) → (at < eden_start start.heap.space) ⊎ (roots_start start.heap.space ≤ at)
      → slice_get now at ≡ slice_get words at
  kept_apart at apart =
      let halves = the_halves in
      elim apart [
        | inl page ↦
            let from = fill_above ending.filled in
            kept at (inl (λ same. omega (arith, page, same, from, halves.room_from, halves.from)))
            (inl (omega (arith, page, halves.left_from)))
        | inr behind ↦ kept at (inr (omega (arith, behind, halves.room_to, halves.to)))
            (inr (omega (arith, behind, halves.left_to)))
      ]

  -- an address of the cells is one of a young cell
  pub cells_hold : (at : ℕ) → IsInCells fixed at → IsOfSomeYoung start.heap at
  cells_hold at inside =
      let is = (ending.begun.begins.cells inside.0).0 inside.1 in
      let size = young_size ending.begun is in
      record {
        cell = is.cell;
        words = is.words;
        has = is.has;
        young = omega (arith, is.young, is.stands);
        of_cell = record {
          from = omega (arith, inside.2.from, is.stands);
          below = omega (arith, inside.2.below, is.stands, size);
        };
      }

  -- an address of the rooms is one of the half, or of a free run
  pub rooms_hold : (at : ℕ) → IsInRooms fixed at → IsInNewHalf start at ⊎ HasRun start.rows at
  rooms_hold at inside =
      elim ((ending.begun.begins.rooms inside.0).0 inside.1) [
        | inl segment ↦ inl (segment_in_new inside.0 at inside.2 segment)
        | inr run ↦
            let same : inside.0 ≡ room_of_run start.heap.space run.0 = run.2 in
            inr record {
              run = run.0;
              is = run.1;
              of_run = record {
                from = omega (arith, inside.2.from, ap (λ (one : Room). one.from) same);
                below = omega (arith, inside.2.below, ap (λ (one : Room). one.to) same);
              };
            }
      ]

  -- a word outside is as before
  pub outside_kept : (at : ℕ) → (IsInCells fixed at → ⊥) → (Contains fixed.slots at → ⊥) → (IsInRooms fixed at → ⊥)
      → slice_get words at ≡ slice_get start.heap.words at
  outside_kept at no_cell no_slot no_room =
      same_found start.heap.words words at as_long
      (ended.1 at no_cell no_slot no_room ∙ ap (λ (all : List ℕ). get_or all at 0) ending.begun.begins.before)

  -- a word of a page, or behind the segments, is in no cell
  apart_from_cells : (at : ℕ) → (at < eden_start start.heap.space) ⊎ (roots_start start.heap.space ≤ at)
      → IsInCells fixed at → ⊥
  apart_from_cells at apart inside =
      let is = cells_hold at inside in
      let below = cell_below_roots (used_few ending.begun.whole.rows) is.has in
      elim apart [
        | inl page ↦ omega (arith, page, is.young, is.of_cell.from)
        | inr behind ↦ omega (arith, behind, below, is.of_cell.below)
      ]

  -- nor in a room, where it is in no free run
  apart_from_rooms : (at : ℕ) → (at < eden_start start.heap.space) ⊎ (roots_start start.heap.space ≤ at)
      → (HasRun start.rows at → ⊥) → IsInRooms fixed at → ⊥
  apart_from_rooms at apart none inside =
      let halves = the_halves in
      elim (rooms_hold at inside) [
        | inl in_half ↦ elim apart [
          | inl page ↦ omega (arith, page, in_half.from, halves.from)
          | inr behind ↦ omega (arith, behind, in_half.below, halves.to)
        ]
        | inr run ↦ none run
      ]

  -- so it is as before where it is none of these, no first root word and not recorded
  pub outside_same : (at : ℕ) → (at < eden_start start.heap.space) ⊎ (roots_start start.heap.space ≤ at)
      → (IsRootAt start.heap.space at → ⊥) → (Contains start.recorded at → ⊥) → (HasRun start.rows at → ⊥)
      → slice_get now at ≡ slice_get start.heap.words at
  outside_same at apart no_root no_record no_run =
      kept_apart at apart
      ∙ outside_kept at (apart_from_cells at apart)
      (λ slot. elim ((ending.begun.begins.slots at).0 slot) [ inl root ↦ no_root root | inr there ↦ no_record there ])
      (apart_from_rooms at apart no_run)

  -- one behind the segments is as before where it is no first root word
  pub behind_same : (at : ℕ) → roots_start start.heap.space ≤ at → (IsRootAt start.heap.space at → ⊥)
      → slice_get now at ≡ slice_get start.heap.words at
  behind_same at behind no_root =
      let halves = the_halves in
      let young : eden_start start.heap.space ≤ at =
      omega (arith, behind, halves.from, halves.room_from, halves.room_to, halves.to) in
      outside_same at (inr behind) no_root (λ there. omega (arith, recorded_below at ending.begun there, young))
      (λ inside. omega (arith, run_ends inside.run ending.begun inside.is, inside.of_run.below, young))
