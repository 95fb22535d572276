-- An element is put, or refused.
use Rattle.std.proofs.Common.{ℕ, ◌+◌, false, refl, sym, ◌∙◌, ap, subst, rules, arith, unwrap_or}
use Rattle.std.specs.Prelude.{FitsSigned}
use Rattle.std.specs.Int.{w64}
use Rattle.handle_roots.specs.Roots.{FitsHeld}
use Rattle.heap_model.specs.Slots.{IsSlotWord}
use Rattle.write_barrier.specs.MutatorState.{heap_of}
use Rattle.object_cells.specs.Contents.{filling_at}
use Rattle.object_cells.specs.Made.{store_content}
use Rattle.object_cells.proofs.NothingUsed.{room_for_none}
use Rattle.object_cells.proofs.HeldNeeds.{new_value_held}
use Rattle.object_cells.proofs.SlotBoxes.{lacks_need}
use Rattle.object_cells.proofs.FilledSlots.{slot_filled, held_before, no_raw}
use Rattle.object_cells.proofs.ListCells.{list_shown, shown_there, shown_beside, shown_ready, count_shown}
use Rattle.object_cells.proofs.ListCells.{store_has_room}
use Rattle.object_cells.proofs.ElementsRead.{place_below, slot_read}
use Rattle.object_cells.proofs.NamedPlaces.{index_named, place_stands}
use Rattle.object_cells.proofs.ListChanging.{changing}
use Rattle.object_cells.proofs.FillsOn.{may_fill}
use Rattle.list_store.proofs.PutsInCycle.{can_put}
use Rattle.list_store.proofs.PutOutcomes.{need_to_put, has_put}
use Rattle.list_store.proofs.putting.put.Goals as goal

pub count_of-requires-clause-there : goal.count_of-requires-clause-there
count_of-requires-clause-there c = shown_there (list_shown c.requires.shows c.requires.is)

pub returns-in_default : goal.returns-in_default
returns-in_default c graph one what shows is holds =
    let fits : FitsSigned w64 c.args.index = search rules in (
      index_named c.count_of.result c.args.index c.checked_index.result (list_shown shows is)
          c.count_of.ensures.counted fits
          c.checked_index.ensures ∙ c.in_default.is,
      refl,
    )

pub store_of-store-requires-clause-there : goal.store_of-store-requires-clause-there
store_of-store-requires-clause-there c = shown_beside (list_shown c.requires.shows c.requires.is)

pub fill_slot-requires-clause-within : goal.fill_slot-requires-clause-within
fill_slot-requires-clause-within c =
    let ready = shown_ready c.requires.shows (list_shown c.requires.shows c.requires.is) c.count_of.ensures.counted in
    let below = place_below c.count_of.result c.in-Some.place _ (sym c.checked_index.ensures ∙ c.in-Some.is) in
    (place_stands c.store_of-store.result c.in-Some.place ready c.store_of-store.ensures below).within

pub fill_slot-requires-clause-held : goal.fill_slot-requires-clause-held
fill_slot-requires-clause-held c =
    let heap = heap_of c.args.main.now in
    let shown = list_shown c.requires.shows c.requires.is in
    let ready = shown_ready c.requires.shows shown c.count_of.ensures.counted in
    let below = place_below c.count_of.result c.in-Some.place _ (sym c.checked_index.ensures ∙ c.in-Some.is) in
    let room = (place_stands c.store_of-store.result c.in-Some.place ready c.store_of-store.ensures below).below in
    let read = slot_read c.args.list shown.shows.store c.in-Some.place shown.shows.slots c.store_of-store.result
    c.requires.shows.shows.whole c.store_of-store.ensures shown.has shown.stands shown.shows.slot shown.shows.has
    room in
    held_before heap _ (store_content c.args.value)
    (subst (IsSlotWord heap) (sym (ap (λ found. unwrap_or found 0) read.stands)) read.is)

pub fill_slot-requires-clause-may : goal.fill_slot-requires-clause-may
fill_slot-requires-clause-may c =
    let asked = c.requires in
    let fits : FitsHeld c.args.value = search rules in
    let old = c.args.main.now in
    let store = c.store_of-store.result in
    let place : ℕ = c.in-Some.place in
    let ready = shown_ready asked.shows (list_shown asked.shows asked.is) c.count_of.ensures.counted in
    let below = place_below c.count_of.result place _ (sym c.checked_index.ensures ∙ c.in-Some.is) in
    let stands = place_stands store place ready c.store_of-store.ensures below in
    let at : ℕ = store.at + (2 + place) in
    may_fill old at (filling_at old at (store_content c.args.value))
    (can_put store place (changing c.args.value asked.shows asked.is asked.is_held fits) c.store_of-store.ensures
    stands.below c.addresses_fit.ensures.fit)

pub returns-in-Ok : goal.returns-in-Ok
returns-in-Ok c graph one what shows is holds =
    let old = c.args.main.now in
    let shown = list_shown shows is in
    let index : FitsSigned w64 c.args.index = search rules in
    let fits : FitsHeld c.args.value = search rules in
    let counted = c.count_of.ensures.counted ∙ count_shown shown in
    let ready = shown_ready shows shown c.count_of.ensures.counted in
    let place : ℕ = c.in-Some.place in
    let store = c.store_of-store.result in
    let below = place_below c.count_of.result place _ (sym c.checked_index.ensures ∙ c.in-Some.is) in
    let stands = place_stands store place ready c.store_of-store.ensures below in
    let known = changing c.args.value shows is holds fits in
    let fills = c.in-Ok.ensures in
    let by = slot_filled fills shows.tied stands.within
    (room_for_none old shows.tied shows.shows.whole)
    (λ w. no_raw w (new_value_held false c.args.value what holds.shows)) in (
      place,
      index_named c.count_of.result c.args.index c.checked_index.result shown c.count_of.ensures.counted index
          c.checked_index.ensures ∙ c.in-Some.is,
      has_put store place known c.store_of-store.ensures stands.below (omega (arith, below, counted))
          (omega (arith, counted, c.count_of.ensures.few))
          (omega (arith, counted, store_has_room store ready c.store_of-store.ensures))
          c.addresses_fit.ensures.within c.addresses_fit.ensures.fit fills by,
    )

pub returns-in-Err : goal.returns-in-Err
returns-in-Err c graph one what shows is holds =
    let old = c.args.main.now in
    let shown = list_shown shows is in
    let index : FitsSigned w64 c.args.index = search rules in
    let fits : FitsHeld c.args.value = search rules in
    let ready = shown_ready shows shown c.count_of.ensures.counted in
    let place : ℕ = c.in-Some.place in
    let store = c.store_of-store.result in
    let below = place_below c.count_of.result place _ (sym c.checked_index.ensures ∙ c.in-Some.is) in
    let stands = place_stands store place ready c.store_of-store.ensures below in
    let known = changing c.args.value shows is holds fits in
    let at : ℕ = store.at + (2 + place) in
    let lacks = lacks_need old (filling_at old at (store_content c.args.value)) c.in-Err.no_room
    c.in-Err.ensures.0 in (
      place,
      index_named c.count_of.result c.args.index c.checked_index.result shown c.count_of.ensures.counted index
          c.checked_index.ensures ∙ c.in-Some.is,
      lacks.0 ∙ need_to_put store place known c.store_of-store.ensures stands.below c.addresses_fit.ensures.within
          (omega (arith, below, c.count_of.ensures.counted, count_shown shown)),
      lacks.1,
      c.in-Err.ensures.1,
    )
