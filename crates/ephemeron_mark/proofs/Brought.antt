-- The next cell of the list and the last one were exchanged: what was visited is visited still.
use Rattle.std.proofs.Common.{◌≡◌, ℕ, ◌<◌, ◌↔◌, inl, inr, List, Contains, slice_get, length, sym, ◌∙◌}
use Rattle.heap_model.specs.Heaps.{Heap}
use Rattle.cell_list.specs.Listing.{Listing}
use Rattle.write_barrier.specs.MutatorState.{Mutator}
use Rattle.ephemeron_mark.specs.Pairs.{Waits}
use Rattle.ephemeron_mark.specs.Progress.{IsMarking, HasGrown, HasMore, IsMarkedPair, AreWaiting, IsMarkedOrWaits}
use Rattle.ephemeron_mark.specs.Progress.{IsAmong, AreVisited, AreMapsAmong}
use Rattle.ephemeron_mark.proofs.GrownLists.{stays_marked}
use Rattle.ephemeron_mark.proofs.LiveAgain.{live_at_once, live_again}

-- the same cells are listed, and those before the place where they were
pub record IsBrought (old new : Listing) (place : ℕ) : Type 0 where
  pub bound : new.bound ≡ old.bound
  pub count : length new.addresses ≡ length old.addresses
  pub members : (at : ℕ) → Contains new.addresses at ↔ Contains old.addresses at
  pub before : (other : ℕ) → other < place → slice_get new.addresses other ≡ slice_get old.addresses other

-- no more are marked
pub more_at_once : {main : Mutator} {cells : Listing} → IsMarking main cells → HasMore main cells cells
more_at_once marking =
    record { marking = marking; kept = λ at there. there; live = λ at there. live_at_once at there }

-- and more again
pub more_by_growth : {main : Mutator} {first old new : Listing} → HasMore main first old → HasGrown main old new
    → HasMore main first new
more_by_growth more grown = record {
  marking = grown.marking;
  kept = λ at there. stays_marked at grown (more.kept at there);
  live = λ at there. live_again more.live at (grown.live at there);
}

module _ {old new : Listing} {place : ℕ} (brought : IsBrought old new place) where
  -- the cells stand there
  pub marking_brought : {main : Mutator} → IsMarking main old → IsMarking main new
  marking_brought marking = record {
    whole = marking.whole;
    bound = brought.bound ∙ marking.bound;
    stand = λ at there. marking.stand at ((brought.members at).0 there);
  }

  -- and as many more are marked
  pub more_brought : {main : Mutator} {first : Listing} → HasMore main first old → HasMore main first new
  more_brought more = record {
    marking = marking_brought more.marking;
    kept = λ at there. (brought.members at).1 (more.kept at there);
    live = λ at there. more.live at ((brought.members at).0 there);
  }

  -- a pair of a marked table is one
  pair_brought : {heap : Heap} (of_key of_value : ℕ) → IsMarkedPair heap old of_key of_value
      → IsMarkedPair heap new of_key of_value
  pair_brought of_key of_value pair = record {
    table = pair.table;
    marked = (brought.members pair.table).1 pair.marked;
    within = pair.within;
    next = pair.next;
    entry = pair.entry;
  }

  -- so the pairs that wait are such
  pub waits_brought : {heap : Heap} {waits : Waits} → AreWaiting heap old waits → AreWaiting heap new waits
  waits_brought waiting = record {
    bound = waiting.bound;
    each = λ key slot waits_for.
        let one = waiting.each key slot waits_for in
        record { of_key = one.of_key; refers = one.refers; pair = pair_brought one.of_key slot one.pair };
  }

  -- a value that is marked or waits does so
  marked_brought : {heap : Heap} {waits : Waits} (key value : ℕ) → IsMarkedOrWaits heap old waits key value
      → IsMarkedOrWaits heap new waits key value
  marked_brought key value (inl marked) = inl ((brought.members value).1 marked)
  marked_brought key value (inr waits) = inr waits

  -- the cells before the place are those that they were
  among_brought : (at : ℕ) → IsAmong new place at → IsAmong old place at
  among_brought at among = record {
    place = among.place;
    below = among.below;
    there = sym (brought.before among.place among.below) ∙ among.there;
  }

  among_back : (at : ℕ) → IsAmong old place at → IsAmong new place at
  among_back at among = record {
    place = among.place;
    below = among.below;
    there = brought.before among.place among.below ∙ among.there;
  }

  -- so they are visited
  pub visited_brought : {heap : Heap} {waits : Waits} → AreVisited heap old waits place
      → AreVisited heap new waits place
  visited_brought visited at among =
      let was = visited at (among_brought at among) in
      record {
        slots = λ to slot. (brought.members to).1 (was.slots to slot);
        pairs = λ key value entry. marked_brought key value (was.pairs key value entry);
        woken = λ value waits. (brought.members value).1 (was.woken value waits);
      }

  -- and the weak maps among them are listed
  pub maps_brought : {heap : Heap} {maps : List ℕ} → AreMapsAmong heap old maps place
      → AreMapsAmong heap new maps place
  maps_brought maps_are = record {
    are = λ at. (
      λ there. let both = (maps_are.are at).0 there in (among_back at both.0, both.1),
      λ both. (maps_are.are at).1 (among_brought at both.0, both.1),
    );
    once = maps_are.once;
    few = maps_are.few;
  }
