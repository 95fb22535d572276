-- A field of a new name comes to the property store, or is refused.
use Rattle.std.proofs.Common.{sym, ◌∙◌, subst, rules, length}
use Rattle.handle_roots.specs.Roots.{FitsHeld}
use Rattle.shape_tree.specs.Shapes.{shape_path}
use Rattle.heap_model.specs.Needs.{capacity_at}
use Rattle.heap_model.specs.Rooms.{new_field_need}
use Rattle.nursery.specs.Young.{HasRoom}
use Rattle.shape_tree.proofs.LedPaths.{refused_with}
use Rattle.write_barrier.specs.MutatorState.{heap_of}
use Rattle.object_cells.specs.Made.{RefusesRoom, is_wide_held}
use Rattle.object_cells.proofs.HeldNeeds.{held_is_value}
use Rattle.shape_change.specs.FieldChanges.{SetsField}
use Rattle.shape_change.specs.declared.stop.FieldStop.TheVariants as stop
use Rattle.shape_change.specs.Additions.{AddsField, CanAdd}
use Rattle.shape_change.proofs.AddedShown.{adding}
use Rattle.shape_change.proofs.FieldAdded.{field_is_set, new_need_is}
use Rattle.shape_change.proofs.NewNames.{shown_shape, field_refused, lacks_no_field, lacks_no_path, can_add}
use Rattle.shape_change.proofs.add_in_store.add_in_store.Goals as goal

pub new_field-requires-clause-path : goal.new_field-requires-clause-path
new_field-requires-clause-path c =
    (shown_shape c.args.object c.args.header c.requires.shown.shows c.requires.shown.is c.requires.headed).is_shape

pub returns-in_err-new : goal.returns-in_err-new
returns-in_err-new c graph plain what shows is holds fresh =
    let old = c.args.main.now in
    refused_with (SetsField old old graph c.args.object plain c.args.name what) c.from_residual.result
    c.in_err-new.field-0.0 c.from_residual.ensures.1
    (field_refused c.args.object c.args.name c.args.value c.in_err-new.field-0.0 shows
    (shown_shape c.args.object c.args.header shows is c.requires.headed) holds.shows fresh c.in_err-new.ensures.refused)

pub store_field-requires-clause-can : goal.store_field-requires-clause-can
store_field-requires-clause-can c =
    let old = c.args.main.now in
    let new = c.in_ok-new.ensures.new in
    subst (λ n. CanAdd old c.args.object c.args.header n c.in_ok-new.new.value) (sym new.named)
    (subst (CanAdd old c.args.object c.args.header c.args.name) (sym new.value_is)
    (can_add (search rules) c.addresses_fit.ensures.within c.requires.shown c.requires.headed c.requires.is_new new.few
    new.may))

pub returns : goal.returns
returns c graph plain what shows is holds fresh =
    let old = c.args.main.now in
    let new = c.in_ok-new.ensures.new in
    let can = can_add (search rules) c.addresses_fit.ensures.within c.requires.shown c.requires.headed
    c.requires.is_new new.few new.may in
    let fits : FitsHeld c.args.value = search rules in
    field_is_set (adding can shows is holds (held_is_value c.args.value what shows fits holds.shows) fresh)
    c.addresses_fit.ensures.within
    (subst (AddsField old c.store_field.new.main c.args.object c.args.header c.args.name) new.value_is
    (subst (λ n. AddsField old c.store_field.new.main c.args.object c.args.header n c.in_ok-new.new.value) new.named
    c.in_ok-store_field.ensures.ok))

pub returns-in_err-store_field : goal.returns-in_err-store_field
returns-in_err-store_field c graph plain what shows is holds fresh =
    let old = c.args.main.now in
    let new = c.in_ok-new.ensures.new in
    let known = shown_shape c.args.object c.args.header shows is c.requires.headed in
    let no_room = c.in_err-store_field.field-0.0 in
    let path = shape_path old.paths c.args.header.shape in
    let capacity = capacity_at (heap_of old) c.args.object in
    let can = can_add (search rules) c.addresses_fit.ensures.within c.requires.shown c.requires.headed
    c.requires.is_new new.few new.may in
    let fits : FitsHeld c.args.value = search rules in
    let held = adding can shows is holds (held_is_value c.args.value what shows fits holds.shows) fresh in
    let refused = subst (λ v. RefusesRoom old c.store_field.new.main
    (new_field_need capacity path.cap (length path.fields) (is_wide_held v)) no_room) new.value_is
    c.in_err-store_field.ensures.refused in
    refused_with (SetsField old c.store_field.new.main graph c.args.object plain c.args.name what)
    c.from_residual-in_err-store_field.result (stop.Full no_room)
    c.from_residual-in_err-store_field.ensures.1 (
      lacks_no_field c.args.name known new.few,
      lacks_no_path c.args.name c.args.value shows known holds.shows fresh new.may,
      refused.need_is ∙ new_need_is capacity held,
      λ room. refused.lacks (subst (HasRoom old.young) refused.need_is room),
      refused.same,
    )
