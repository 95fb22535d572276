-- A field of a new name comes to an in-object slot, or is refused.
use Rattle.std.proofs.Common.{sym, ◌∙◌, ap, subst}
use Rattle.heap_model.specs.Types.{Held}
use Rattle.shape_tree.proofs.LedPaths.{refused_with}
use Rattle.object_cells.specs.Contents.{held_rep}
use Rattle.object_cells.specs.HeldValues.{IsValueHeld}
use Rattle.shape_change.specs.FieldChanges.{SetsField}
use Rattle.shape_change.specs.Additions.{IsNewField}
use Rattle.shape_change.proofs.NewNames.{shown_shape, field_refused}
use Rattle.shape_change.proofs.add_field.add_in_object.Goals as goal

pub new_field-requires-clause-narrowest : goal.new_field-requires-clause-narrowest
new_field-requires-clause-narrowest c =
    let (held, gives, setting) = c.requires.shown in
    c.rep_for.ensures held gives ∙ ap held_rep (sym (c.held.ensures held gives))

pub new_field-requires-clause-path : goal.new_field-requires-clause-path
new_field-requires-clause-path c =
    let (held, gives, setting) = c.requires.shown in
    (shown_shape c.args.object c.args.header setting.shows setting.is c.requires.headed).is_shape

pub returns-in_err-new : goal.returns-in_err-new
returns-in_err-new c held gives graph plain what shows is holds fresh =
    let old = c.args.main.now in
    let held_so = subst (λ (h : Held). IsValueHeld old graph h what) (sym (c.held.ensures held gives)) holds in
    refused_with (SetsField old old graph c.args.object plain c.args.name what) c.from_residual.result
    c.in_err-new.field-0.0 c.from_residual.ensures.1
    (field_refused c.args.object c.args.name c.held.result c.in_err-new.field-0.0 shows
    (shown_shape c.args.object c.args.header shows is c.requires.headed) held_so.shows fresh
    c.in_err-new.ensures.refused)

pub add_new-requires-clause-new : goal.add_new-requires-clause-new
add_new-requires-clause-new c =
    let paths = c.args.main.now.paths in
    let (held, gives, setting) = c.requires.shown in
    record {
      is_shape = (shown_shape c.args.object c.args.header setting.shows setting.is c.requires.headed).is_shape;
      own = c.requires.own;
      of_held = λ what gives_it.
          subst (λ (h : Held). IsNewField paths c.args.header.shape c.args.name h c.in_ok-new.new)
          (c.held.ensures what gives_it) c.in_ok-new.ensures.new;
    }
