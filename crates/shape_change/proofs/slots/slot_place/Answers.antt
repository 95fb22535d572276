-- Where a slot stands: in the object, or in its property store.
use Rattle.std.proofs.Common.{◌≡◌, ◌+◌, ◌-◌, subst, arith}
use Rattle.write_barrier.specs.MutatorState.{heap_of}
use Rattle.object_cells.specs.CellsAt.{HasPlainSlot}
use Rattle.shape_change.specs.Places.{StandsSlot, IsPlaceOf}
use Rattle.shape_change.proofs.slots.slot_place.Goals as goal

pub own_place-requires-clause-there : goal.own_place-requires-clause-there
own_place-requires-clause-there c = (c.args.cap, c.requires.cap, c.requires.there, c.if-slot-cap.true)

pub stored_place-requires-clause-there : goal.stored_place-requires-clause-there
stored_place-requires-clause-there c =
    let behind : c.args.slot ≡ c.args.cap + (c.args.slot - c.args.cap) = omega (arith, c.if-slot-cap.false) in
    (c.args.cap, c.requires.cap, subst (HasPlainSlot (heap_of c.args.main.now) c.args.object) behind c.requires.there)

pub returns-else-slot-cap-clause-stands : goal.returns-else-slot-cap-clause-stands
returns-else-slot-cap-clause-stands c =
    let behind : c.args.cap + (c.args.slot - c.args.cap) ≡ c.args.slot = omega (arith, c.if-slot-cap.false) in
    subst (λ n. StandsSlot (heap_of c.args.main.now) c.args.object n c.stored_place.result) behind
    (c.stored_place.ensures.stands c.args.cap c.requires.cap)

pub returns-else-slot-cap-clause-place : goal.returns-else-slot-cap-clause-place
returns-else-slot-cap-clause-place c =
    let behind : c.args.cap + (c.args.slot - c.args.cap) ≡ c.args.slot = omega (arith, c.if-slot-cap.false) in
    subst (λ n. IsPlaceOf (heap_of c.args.main.now) c.args.object c.args.cap n c.stored_place.result) behind
    (c.stored_place.ensures.place c.args.cap c.requires.cap)
