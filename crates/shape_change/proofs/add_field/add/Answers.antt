-- A field whose in-object slot is known is put, and any other is sought.
use Rattle.std.proofs.Common.{Ok}
use Rattle.shape_change.proofs.SetsTold.{plain_sets}
use Rattle.shape_change.proofs.ShownFields.{name_is_new}
use Rattle.shape_change.proofs.add_field.add.Goals as goal

pub cached_field-requires : goal.cached_field-requires
cached_field-requires o c = (c.requires.may.held, c.requires.may.gives)

pub add_new-requires-clause-shown : goal.add_new-requires-clause-shown
add_new-requires-clause-shown o c =
    let own = c.in-Some.ensures in
    (c.requires.may.held, c.requires.may.gives, c.requires.may.plain own.is_shape.from)

pub add_new-requires-clause-is_new : goal.add_new-requires-clause-is_new
add_new-requires-clause-is_new o c = c.requires.is_new c.in-Some.ensures.is_shape.from

pub returns-in-Some : goal.returns-in-Some
returns-in-Some o c =
    let from = c.in-Some.ensures.is_shape.from in (
      Ok tt,
      c.done.ensures,
      plain_sets (Ok tt) from (λ held gives graph plain what shows is holds.
          c.add_new.ensures held gives graph plain what shows is holds
          (name_is_new shows is c.requires.may.headed c.args.name (c.requires.is_new from))),
    )
