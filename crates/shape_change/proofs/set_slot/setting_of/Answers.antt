-- How a slot is set.
use Rattle.std.proofs.Common.{get_or, nat_lt, ◌∙◌, ap, subst, rules}
use Rattle.object_graph.specs.Values.{join}
use Rattle.handle_roots.specs.Roots.{FitsHeld}
use Rattle.write_barrier.specs.MutatorState.{heap_of}
use Rattle.object_cells.specs.Contents.{content_of}
use Rattle.shape_change.specs.Places.{IsPlaceOf}
use Rattle.shape_change.proofs.SetThere.{is_read, fills_at, held_there, shown_setting}
use Rattle.object_cells.proofs.PlainFields.{field_slot_there, cap_there}
use Rattle.shape_change.proofs.set_slot.setting_of.Goals as goal

pub slot_place-place-requires-clause-there : goal.slot_place-place-requires-clause-there
slot_place-place-requires-clause-there c = field_slot_there c.requires.shown.shows.shows.whole c.requires.there

pub slot_place-place-requires-clause-cap : goal.slot_place-place-requires-clause-cap
slot_place-place-requires-clause-cap c =
    cap_there c.args.cap c.requires.shown.shows.shows.whole c.requires.there c.requires.cap

pub returns : goal.returns
returns c =
    let old = c.args.main.now in
    let was = c.args.was in
    let place = c.slot_place-place.result in
    let fits : FitsHeld c.args.value = search rules in
    let s = shown_setting c.requires.shown c.requires.there fits in
    let in_object = c.is_own.ensures ∙ c.slot_place-place.ensures.own in
    let read = is_read s c.args.shape c.args.cap place c.is_own.result was c.requires.there c.requires.cap
    c.slot_place-place.ensures.place in_object c.requires.was in
    let joins = c.join-rep.ensures ∙ ap (join was) c.rep_of.ensures in
    let fills = fills_at s place c.is_own.result was c.join-rep.result c.args.value c.content_of.result read
    c.requires.shown.is_held.shows joins c.content_of.ensures in
    let own = in_object ∙ ap (nat_lt c.args.slot) c.requires.cap in
    record {
      place = subst (λ n. IsPlaceOf (heap_of old) c.args.object n c.args.slot place) c.requires.cap
          c.slot_place-place.ensures.place;
      within = c.slot_place-place.ensures.within;
      was = c.requires.was;
      joins = joins;
      content = c.content_of.ensures ∙ ap (λ o. content_of o c.join-rep.result c.args.value) own;
      held = held_there s {word = get_or s.shown.slots c.args.slot 0} place fills;
    }
