-- A field is held where the look-up finds it.
use Rattle.std.proofs.Common.{sym, subst, refl}
use Rattle.write_barrier.specs.MutatorState.{Mutator, heap_of}
use Rattle.shape_change.specs.FieldChanges.{HoldsSlot}
use Rattle.object_cells.specs.CellsAt.{HasField}
use Rattle.shape_change.proofs.ShownFields.{shown_shape, name_is_new}
use Rattle.shape_change.proofs.HeldByName.{located_has, held_found}
use Rattle.shape_change.proofs.get_field.hold_sought.Goals as goal

pub lookup-requires : goal.lookup-requires
lookup-requires c = shown_shape c.requires.plain.shows c.requires.plain.is c.requires.headed

pub hold_slot-requires-clause-there : goal.hold_slot-requires-clause-there
hold_slot-requires-clause-there c =
    let found = c.in-Some.found in
    let shown = c.requires.plain in
    subst (λ (main : Mutator). HasField (heap_of main) c.args.object found.shape found.at) (sym c.lookup.ensures.same)
    (located_has shown.shows shown.is c.requires.headed found c.args.name c.in-Some.ensures.found)

pub returns-in-Some : goal.returns-in-Some
returns-in-Some c graph plain shows is =
    let found = c.in-Some.found in
    held_found shows is c.requires.headed c.hold_slot.new.main c.args.variable c.args.name found c.in-Some.ensures.found
    (subst (λ (main : Mutator). HoldsSlot main c.hold_slot.new.main c.args.variable c.args.object found.at)
    c.lookup.ensures.same c.hold_slot.ensures)

pub returns-in-None : goal.returns-in-None
returns-in-None c graph plain shows is =
    (name_is_new shows is c.requires.headed c.args.name (c.in-None.ensures.none.0 refl), c.lookup.ensures.same)
