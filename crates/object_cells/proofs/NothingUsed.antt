-- Where no word more is used.
use Rattle.std.proofs.Common.{◌≡◌, ℕ, ◌+◌, ◌≤◌, Bool, true, false, refl, sym, ◌∙◌, ap, arith}
use Rattle.page_space.specs.Extents.{Space}
use Rattle.nursery.specs.Young.{Young, HasRoom, HasRoomBy, in_eden}
use Rattle.write_barrier.specs.Seats.{RestStays}
use Rattle.heap_model.specs.Heaps.{Heap}
use Rattle.heap_model.specs.Needs.{capacity_at}
use Rattle.heap_model.specs.Wholeness.{Whole}
use Rattle.write_barrier.specs.MutatorState.{Mutator, heap_of, IsTied}
use Rattle.object_cells.specs.Capacities.{ChangesObject, IsOldOrOwn}
use Rattle.object_cells.specs.Uses.{UsesMore}
use Rattle.object_cells.proofs.TakenRuns.{bumped_none}

-- there is room for no more words, wherever cells are made
room_for_none_by : (young : Young) (test : Bool) → young.survivors + young.used ≤ young.space.sizes.young
    → HasRoomBy test young 0
room_for_none_by young true few = omega (arith, few)
room_for_none_by young false few = omega arith

-- so there is
pub room_for_none : (old : Mutator) → IsTied old → Whole (heap_of old) → HasRoom old.young 0
room_for_none old tied whole =
    room_for_none_by old.young (in_eden old.young)
    (omega (arith, whole.rows.few, ap (λ (space : Space). space.sizes.young) tied.space))

-- so none more is used, where the young generation and the free runs are as they were
pub uses_none : {old new : Mutator} → RestStays old.seat new.seat → new.young ≡ old.young → new.free ≡ old.free
    → UsesMore old new 0
uses_none {old} beside young free =
    record { beside = beside; young = young ∙ sym (bumped_none old.young); free = free }

-- where nothing has changed, each object has the capacity that it had
pub nothing_changes : {from to : ℕ} (heap : Heap) (at capacity : ℕ) → capacity_at heap at ≡ capacity
    → ChangesObject heap heap from to at capacity
nothing_changes heap at capacity same = record {
  words = λ word below not_own not_made. refl;
  own = same;
  others = λ number other place apart. refl;
  stays = λ number other place. place;
  stand = λ cell words has object apart. has;
  none_made = λ number other place. place;
  cells = λ cell words has. IsOldOrOwn.stood has;
}
