-- Where nothing is granted any more, the heap is as it was, and so is what is recorded.
use Rattle.std.proofs.Common.{◌≡◌, ◌<◌, inl, inr, List, sym, subst, arith}
use Rattle.std.proofs.lemmas.Bool.{cases_lt}
use Rattle.page_space.specs.Extents.{eden_start}
use Rattle.write_barrier.specs.Seats.{heap_words}
use Rattle.nursery.specs.Young.{no_run}
use Rattle.heap_model.specs.Types.{Run}
use Rattle.heap_model.specs.Heaps.{Heap}
use Rattle.heap_model.specs.Remembered.{Touch, IsRecordedBy, AreRemembered}
use Rattle.heap_model.proofs.RememberedSlots.{page_slot_below}
use Rattle.write_barrier.specs.MutatorState.{Mutator, heap_of, AvoidsFree}
use Rattle.write_barrier.specs.Recording.{Touches, touched, untouched}
use Rattle.write_barrier.proofs.TouchedRanges.{touched_outside}
use Rattle.collector.specs.MarkSwept.{Ungrants}

-- fillers over no words touch no address
pub none_touched : {old new : Mutator} → Touches old new (touched Touch.Wiped 0 0) → Touches old new untouched
none_touched {old} {new} touches = record {
  free = touches.free;
  bound = touches.bound;
  records = record {
    each = λ at below.
        subst (IsRecordedBy old.recorded.bound (heap_words old.seat) (heap_words new.seat) old.recorded.slots
        new.recorded.slots at) (touched_outside Touch.Wiped 0 0 at (inr (omega arith)))
        (touches.records.each at below);
    beyond = touches.records.beyond;
  };
}

-- where no word is granted, no free run begins in what is
pub none_avoids : (rows : List (List Run)) → AvoidsFree no_run rows
none_avoids rows row one there among above below = omega (arith, below)

module _ {old new : Mutator} (ungrants : Ungrants old new) where
  -- the heap is as it was
  pub heap_stays : heap_of new ≡ heap_of old
  heap_stays = λ i. record {
    space = ungrants.beside.space i;
    used = (ungrants.young i).used;
    survivors = (ungrants.young i).survivors;
    paths = ungrants.paths i;
    words = ungrants.words i;
  }

  -- what is recorded stays right
  recorded_right : old.recorded.bound ≡ eden_start old.seat.space → AreRemembered (heap_of old) old.recorded.slots
      → AreRemembered (heap_of old) new.recorded.slots
  recorded_right bounded remembered at = (
    λ there. elim (cases_lt at old.recorded.bound) [
      | inl below ↦ (remembered at).0 ((ungrants.touches.records.each at below).1.0 there)
      | inr past ↦ (remembered at).0 (ungrants.touches.records.beyond at past there)
    ],
    λ is.
        let below : at < old.recorded.bound = omega (arith, page_slot_below is.0, bounded) in
        (ungrants.touches.records.each at below).1.1 ((remembered at).1 is),
  )

  -- in the heap that is as it was
  pub ungranted_remembered : old.recorded.bound ≡ eden_start old.seat.space
      → AreRemembered (heap_of old) old.recorded.slots → AreRemembered (heap_of new) new.recorded.slots
  ungranted_remembered bounded remembered =
      subst (λ (heap : Heap). AreRemembered heap new.recorded.slots) (sym heap_stays)
      (recorded_right bounded remembered)
