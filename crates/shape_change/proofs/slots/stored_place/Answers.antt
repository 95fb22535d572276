-- Where a slot of a property store stands.
use Rattle.std.proofs.Common.{◌≡◌, ◌+◌, ◌/◌, ap, sym, ◌∙◌, subst, arith, unwrap_or}
use Rattle.std.proofs.lemmas.Option.{same_Some}
use Rattle.tagged_word.specs.Readings.{reference_in}
use Rattle.write_barrier.specs.MutatorState.{heap_of}
use Rattle.object_cells.proofs.CellsRead.{fits_address}
use Rattle.object_cells.proofs.SlotPlaces.{store_within}
use Rattle.shape_change.specs.declared.slots.Place.TheVariants.{InStore}
use Rattle.shape_change.specs.Places.{StandsSlot}
use Rattle.shape_change.proofs.PlacesBelow.{one_cap, stored_slot, stored_stands}
use Rattle.shape_change.proofs.slots.stored_place.Goals.{After-known_address-store}
use Rattle.shape_change.proofs.slots.stored_place.Goals as goal

pub slot-requires : goal.slot-requires
slot-requires c =
    let (cap, caps, there) = c.requires.there in
    omega (arith, store_within c.requires.whole.sized there.has there.plain, there.stands)

pub known_address-store-requires : goal.known_address-store-requires
known_address-store-requires c =
    let (cap, caps, there) = c.requires.there in
    let read = c.slot.result in (
      read / 4,
      (stored_slot c.args.slot cap read c.requires.whole.sized c.addresses_fit.ensures.within caps there
          c.slot.ensures.of_heap).refers,
    )

-- the address is four times less than the word that tells it
quarter : (c : After-known_address-store) → c.slot.result / 4 ≡ c.known_address-store.result
quarter c =
    let (cap, caps, there) = c.requires.there in
    let read = c.slot.result in
    same_Some (read / 4) c.known_address-store.result
    (sym (stored_slot c.args.slot cap read c.requires.whole.sized c.addresses_fit.ensures.within caps there
    c.slot.ensures.of_heap).refers ∙ c.known_address-store.ensures)

pub overflow_add-result : goal.overflow_add-result
overflow_add-result c =
    let (cap, caps, there) = c.requires.there in
    let stored = stored_slot c.args.slot cap c.slot.result c.requires.whole.sized c.addresses_fit.ensures.within
    caps there c.slot.ensures.of_heap in
    let fits = fits_address stored.stands.within c.addresses_fit.ensures.within in
    omega (arith, fits)

pub returns-clause-stands : goal.returns-clause-stands
returns-clause-stands c cap caps =
    let (first, first_caps, there) = c.requires.there in
    let same = one_cap first cap there first_caps caps in
    subst (λ n. StandsSlot (heap_of c.args.main.now) c.args.object (n + c.args.slot)
    (InStore c.known_address-store.result (2 + c.args.slot))) same
    (subst (λ store. StandsSlot (heap_of c.args.main.now) c.args.object (first + c.args.slot)
    (InStore store (2 + c.args.slot))) (quarter c)
    (stored_stands c.args.slot first c.slot.result c.requires.whole.sized c.addresses_fit.ensures.within
    first_caps there c.slot.ensures.of_heap))

pub returns-clause-place : goal.returns-clause-place
returns-clause-place c cap caps = (
  omega arith,
  ap (λ found. reference_in (unwrap_or found 0)) c.slot.ensures.of_heap ∙ c.known_address-store.ensures,
  omega arith,
)

pub returns-clause-within : goal.returns-clause-within
returns-clause-within c =
    let (cap, caps, there) = c.requires.there in
    let below = (stored_slot c.args.slot cap c.slot.result c.requires.whole.sized c.addresses_fit.ensures.within
    caps there c.slot.ensures.of_heap).stands.within in
    omega (arith, below, quarter c)
