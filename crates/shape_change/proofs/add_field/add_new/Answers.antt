-- A field of a new name comes to an in-object slot.
use Rattle.std.proofs.Common.{sym, ◌∙◌, ap, subst}
use Rattle.shape_change.specs.FieldChanges.{IsShownSetting}
use Rattle.shape_change.specs.Additions as additions
use Rattle.shape_change.specs.Additions.{AddsField, CanAdd, IsNewField}
use Rattle.object_cells.proofs.HeldNeeds.{held_is_value}
use Rattle.shape_change.proofs.AddedShown.{adding}
use Rattle.shape_change.proofs.FieldAdded.{field_is_set}
use Rattle.shape_change.proofs.NewNames.{can_add}
use Rattle.shape_change.proofs.add_field.add_new.Goals as goal

pub add_own-requires-clause-can : goal.add_own-requires-clause-can
add_own-requires-clause-can c =
    let old = c.args.main.now in
    let (held, gives, setting) = c.requires.shown in
    let new = c.requires.new.of_held held gives in
    subst (λ n. CanAdd old c.args.object c.args.header n c.args.new.value) (sym new.named)
    (subst (CanAdd old c.args.object c.args.header c.args.name) (sym new.value_is)
    (can_add gives.fits c.addresses_fit.ensures.within setting c.requires.headed c.requires.is_new new.few new.may))

pub add_own-requires-clause-new : goal.add_own-requires-clause-new
add_own-requires-clause-new c =
    let paths = c.args.main.now.paths in
    let (held, gives, setting) = c.requires.shown in
    let new = c.requires.new.of_held held gives in
    subst (λ n. IsNewField paths c.args.header.shape n c.args.new.value c.args.new) (sym new.named)
    (subst (λ v. IsNewField paths c.args.header.shape c.args.name v c.args.new) (sym new.value_is) new)

pub add_own-requires-clause-own : goal.add_own-requires-clause-own
add_own-requires-clause-own c = c.requires.new.own

pub add_own-requires-clause-content : goal.add_own-requires-clause-content
add_own-requires-clause-content c =
    let (held, gives, setting) = c.requires.shown in
    c.own_content.ensures held gives
    ∙ ap additions.own_content (sym (c.requires.new.of_held held gives).value_is)

pub returns : goal.returns
returns c held gives graph plain what shows is holds fresh =
    let old = c.args.main.now in
    let new = c.requires.new.of_held held gives in
    let setting : IsShownSetting old c.args.object held =
    record { graph = graph; plain = plain; value = what; shows = shows; is = is; is_held = holds } in
    let can = can_add gives.fits c.addresses_fit.ensures.within setting c.requires.headed c.requires.is_new new.few
    new.may in
    let adds : AddsField old c.add_own.new.main c.args.object c.args.header c.args.new.field.name c.args.new.value =
    AddsField.own c.requires.new.own c.add_own.ensures in
    field_is_set (adding can shows is holds (held_is_value held what shows gives.fits holds.shows) fresh)
    c.addresses_fit.ensures.within
    (subst (AddsField old c.add_own.new.main c.args.object c.args.header c.args.name) new.value_is
    (subst (λ n. AddsField old c.add_own.new.main c.args.object c.args.header n c.args.new.value) new.named adds))
