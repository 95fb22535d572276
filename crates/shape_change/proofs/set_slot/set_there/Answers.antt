-- A field that is there gets a value.
use Rattle.std.proofs.Common.{◌≡◌, rules}
use Rattle.handle_roots.specs.Roots.{FitsHeld}
use Rattle.shape_tree.proofs.LedPaths.{refused_with}
use Rattle.shape_change.specs.FieldChanges.{SetsField}
use Rattle.shape_change.specs.declared.stop.FieldStop.TheVariants as stop
use Rattle.shape_change.proofs.Settings.{setting}
use Rattle.shape_change.proofs.SetByPlace.{as_it_is_may, as_it_is_sets, as_it_is_refused, widening_sets}
use Rattle.shape_change.proofs.SetThere.{field_path, shown_setting}
use Rattle.shape_change.proofs.set_slot.set_there.Goals as goal

pub set_wider-requires-clause-can : goal.set_wider-requires-clause-can
set_wider-requires-clause-can c =
    let shown = c.requires.shown in
    let is = c.setting_of-setting.ensures in
    record {
      value = c.args.value;
      fits = search rules;
      shown = shown;
      is = is;
      sizes = c.addresses_fit.ensures.within;
      whole = shown.shows.shows.whole;
      tied = shown.shows.tied;
      there = c.requires.there;
      path = field_path shown.shows.shows.whole c.requires.there;
      within = is.within;
      held = is.held;
    }

pub set_as_is-requires-clause-may : goal.set_as_is-requires-clause-may
set_as_is-requires-clause-may c =
    let fits : FitsHeld c.args.value = search rules in
    let shown = c.requires.shown in
    let stays : c.setting_of-setting.result.rep ≡ c.setting_of-setting.result.was = search rules in
    as_it_is_may (shown_setting shown c.requires.there fits) c.addresses_fit.ensures.within c.requires.there
    c.setting_of-setting.ensures shown.is_held.shows stays

pub returns-then-ne : goal.returns-then-ne
returns-then-ne c graph plain what name shows is holds there =
    let fits : FitsHeld c.args.value = search rules in
    let s = setting shows is holds fits there in
    widening_sets s c.addresses_fit.ensures.within c.requires.there c.setting_of-setting.ensures holds.shows
    c.set_wider.new.main c.set_wider.result c.set_wider.ensures

pub returns : goal.returns
returns c graph plain what name shows is holds there =
    let fits : FitsHeld c.args.value = search rules in
    let s = setting shows is holds fits there in
    let stays : c.setting_of-setting.result.rep ≡ c.setting_of-setting.result.was = search rules in
    as_it_is_sets s c.addresses_fit.ensures.within c.requires.there c.setting_of-setting.ensures holds.shows stays
    c.in_ok-set_as_is.ensures.fills

pub returns-in_err-set_as_is : goal.returns-in_err-set_as_is
returns-in_err-set_as_is c graph plain what name shows is holds there =
    let fits : FitsHeld c.args.value = search rules in
    let s = setting shows is holds fits there in
    let stays : c.setting_of-setting.result.rep ≡ c.setting_of-setting.result.was = search rules in
    let no_room = c.in_err-set_as_is.field-0.0 in
    refused_with (SetsField c.args.main.now c.set_as_is.new.main graph c.args.object plain name what)
    c.from_residual.result (stop.Full no_room) c.from_residual.ensures.1
    (as_it_is_refused s c.addresses_fit.ensures.within c.requires.there c.setting_of-setting.ensures holds.shows
    no_room stays c.in_err-set_as_is.ensures.refused c.in_err-set_as_is.ensures.unchanged)
