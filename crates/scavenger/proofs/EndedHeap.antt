-- A scavenge that has come to its end: the heap that is left is the old one, moved, its young cells are the home copies
-- that stayed young, and these fill the segments.
use Rattle.std.proofs.Common.{◌≡◌, ℕ, ◌+◌, ◌-◌, ◌≤◌, ◌↔◌, inl, inr, Bool, List, [], ◌∷◌, ◌++◌, Contains, sym, ◌∙◌, ap}
use Rattle.std.proofs.Common.{subst, arith}
use Rattle.std.proofs.lemmas.List.Elements.{Contains-append_cases, Contains-append_right}
use Rattle.std.proofs.lemmas.List.Sums.{sum_by-append, sum_by-cons}
use Rattle.tagged_word.proofs.Members.{one_in}
use Rattle.page_space.specs.Extents.{eden_start}
use Rattle.nursery.specs.Young.{Young, IsYoung, other_half, turned}
use Rattle.write_barrier.specs.Seats.{heap_words}
use Rattle.heap_model.specs.Types.{Cell}
use Rattle.heap_model.specs.Heaps.{HasCell}
use Rattle.heap_model.proofs.RowCovers.{of_one}
use Rattle.heap_moves.specs.Moved.{IsMoved}
use Rattle.write_barrier.specs.MutatorState.{Mutator, heap_of}
use Rattle.scav_copy.specs.declared.places.Home.{Home}
use Rattle.scav_copy.specs.Places.{Fixed}
use Rattle.scav_copy.proofs.Spots.{home_itself, none_in}
use Rattle.scavenger.specs.Starts.{SegmentCopies, nothing_handed, start_with, room_start, segment_from}
use Rattle.scavenger.specs.Filling.{homes_in, words_of_homes, words_of_segments}
use Rattle.scavenger.specs.Laws.{IsEnded}
use Rattle.scavenger.specs.Scavenged.{StaysIn, StandsInOneSegment, place_after}
use Rattle.scavenger.proofs.FilledSegments.{main_segment, main_filled, young_within}
use Rattle.scavenger.proofs.FirstSegments.{hands_nothing}
use Rattle.scavenger.proofs.EndWords.{Ending, end_segments, stayed_is, is_stayed}
use Rattle.scavenger.proofs.EndRows.{ended_heap}
use Rattle.scavenger.proofs.EndHeap.{few_stayed}
use Rattle.scavenger.proofs.EndMoved.{is_moved, alone}

module _ {old new : Mutator} {handed : List SegmentCopies} {all : Bool} {fixed : Fixed} {homes : List Home}
    {words : List ℕ} {fill refused : ℕ}
    (young : IsYoung old.young) (is : IsEnded old handed new all fixed homes words fill refused) where
  -- an end of a scavenge, by its parts
  abbrev pub ending_is : Ending (start_with old handed) old.young.half fixed homes new.free words
      (heap_words new.seat) fill
  ending_is = record {
    limits = is.limits;
    halves = omega (arith, young.half);
    begun = is.begun;
    filled = is.filled;
    done = is.done;
    emptied = is.emptied;
  }

  -- the segments that are left: the helpers' and the main side's
  abbrev pub left_segments : List SegmentCopies
  left_segments = end_segments ending_is

  -- all have the words of the helpers' and of the main side's
  left_words : words_of_segments fixed handed + (fill - room_start old.seat.space (other_half old.young.half))
      ≡ words_of_segments fixed left_segments
  left_words =
      let main = main_segment (start_with old handed) is.filled.stayed in
      omega (
        arith,
        sum_by-append (λ (segment : SegmentCopies). words_of_homes fixed segment.homes) handed (main ∷ []),
        sum_by-cons (λ (segment : SegmentCopies). words_of_homes fixed segment.homes) main [],
        main_filled is.begun is.filled,
      )

  -- so the nursery was turned to these
  pub left_young : new.young ≡ turned old.young (words_of_segments fixed left_segments)
  left_young = is.young ∙ ap (turned old.young) left_words

  -- the heap that is left is the one at the end
  pub left_is : heap_of new ≡ ended_heap (heap_of old) fixed left_segments (heap_words new.seat)
  left_is = λ i. record {
    space = is.seat.space i;
    used = ap (λ (one : Young). one.used) left_young i;
    survivors = ap (λ (one : Young). one.survivors) left_young i;
    paths = is.paths i;
    words = heap_words new.seat;
  }

  -- it is the old one, moved
  pub left_is_moved : IsMoved (heap_of old) (heap_of new) (place_after (start_with old handed) homes)
  left_is_moved =
      subst (λ heap. IsMoved (heap_of old) heap (place_after (start_with old handed) homes)) (sym left_is)
      (is_moved ending_is)

  -- its young cells are home copies
  pub left_alone : (cell : Cell) (body : List ℕ) → HasCell (heap_of new) cell body → eden_start old.seat.space ≤ cell.at
      → (home : Home) × Contains homes home × (home.to ≡ cell.at)
  left_alone cell body has from =
      alone ending_is cell body (subst (λ heap. HasCell heap cell body) left_is has) from

  -- the home copies in the segments are those that begin behind the pages
  pub left_stayed : (home : Home) → StaysIn left_segments home
      ↔ (Contains homes home × (eden_start old.seat.space ≤ home.to))
  left_stayed home = (λ stays. stayed_is ending_is home stays, λ both. is_stayed ending_is home both.0 both.1)

  -- no more words than survivors and eden's used words together
  pub left_few : words_of_segments fixed left_segments ≤ old.young.survivors + old.young.used
  left_few = few_stayed ending_is

  -- the copies that were handed over are home copies
  pub left_handed : (home : Home) → Contains (homes_in handed) home → Contains homes home
  left_handed home there =
      let young = Contains-append_right is.filled.promoted (homes_in handed) home there in
      (is.filled.same home).1
      (Contains-append_right is.filled.stayed (is.filled.promoted ++ homes_in handed) home young)

  -- where nothing was handed over, no young cell stands in a helper's segment
  pub left_in_one : handed ≡ nothing_handed old.seat.space → StandsInOneSegment old new
  left_in_one nothing cell body has from =
      let found = left_alone cell body has from in
      let young : eden_start old.seat.space ≤ found.0.to = omega (arith, from, found.2) in
      let is_young = young_within is.begun is.filled found.0 found.1 young in
      let main = main_segment (start_with old handed) is.filled.stayed in
      let stays = is_young.stays in
      elim (Contains-append_cases handed (main ∷ []) stays.segment stays.of_all) [
        | inl helping ↦
            let none = (hands_nothing (start_with old handed) fixed is.begun nothing).homes in
            let there = of_one (λ (one : SegmentCopies). one.homes) handed stays.segment found.0 helping
            stays.among in
            absurd (none_in found.0 (subst (λ (all : List Home). Contains all found.0) none there))
        | inr own ↦
            let worker : old.seat.space.sizes.helpers ≡ stays.segment.worker =
            ap (λ (one : SegmentCopies). one.worker) (one_in main stays.segment own) in
            let starts = ap (segment_from old.seat.space (other_half old.young.half)) worker in
            let first = home_itself found.0 is.begun.laid is.filled.copying found.1 in (
              omega (arith, is_young.from, starts, found.2),
              omega (arith, is_young.ends, is_young.fits, starts, found.2, first.below),
            )
      ]
