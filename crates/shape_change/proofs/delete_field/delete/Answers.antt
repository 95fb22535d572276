-- A field is taken out of what the heap shows.
use Rattle.std.proofs.Common.{sym, subst, refl, Ok}
use Rattle.write_barrier.specs.MutatorState.{Mutator, heap_of}
use Rattle.write_barrier.proofs.Headers.{has_header}
use Rattle.object_cells.specs.CellsAt.{HasField}
use Rattle.object_cells.proofs.PlainFields.{plain_shown}
use Rattle.shape_change.specs.FieldChanges.{DeletesField}
use Rattle.shape_change.specs.Deletions.{MayTakeOut, TakingOut}
use Rattle.heap_model.specs.Wholeness.{Whole}
use Rattle.shape_change.proofs.TakeOutShown.{shown_may_take_out}
use Rattle.shape_change.proofs.ShownFields.{shown_shape, field_found, located_named}
use Rattle.shape_change.proofs.DeletedGraphs.{field_deleted, none_deleted}
use Rattle.shape_change.proofs.delete_field.delete.Goals as goal

pub header-header-requires : goal.header-header-requires
header-header-requires c =
    let shown = plain_shown c.requires.shows c.requires.is in
    has_header shown.has shown.stands

pub lookup-requires : goal.lookup-requires
lookup-requires c = shown_shape c.requires.shows c.requires.is c.header-header.ensures.of_cell

pub take_out-requires-clause-whole : goal.take_out-requires-clause-whole
take_out-requires-clause-whole c =
    subst (λ (main : Mutator). Whole (heap_of main)) (sym c.lookup.ensures.same) c.requires.shows.shows.whole

-- the field that was found is the object's
pub take_out-requires-clause-may : goal.take_out-requires-clause-may
take_out-requires-clause-may c =
    let (located, of_shape, named) = c.in-Some.ensures.found in
    let found = c.in-Some.found in
    subst (λ (main : Mutator). MayTakeOut main c.args.object c.header-header.result.shape)
    (sym c.lookup.ensures.same)
    (shown_may_take_out c.addresses_fit.ensures.fit c.requires.shows c.requires.is
    (field_found c.requires.shows c.requires.is c.header-header.ensures.of_cell found.at c.args.name
    (located_named c.args.main.now.paths found c.header-header.result.shape c.args.name located of_shape named)).has)

pub take_out-requires-clause-there : goal.take_out-requires-clause-there
take_out-requires-clause-there c =
    let (located, of_shape, named) = c.in-Some.ensures.found in
    let found = c.in-Some.found in
    subst (λ (main : Mutator). HasField (heap_of main) c.args.object c.header-header.result.shape found.at)
    (sym c.lookup.ensures.same)
    (field_found c.requires.shows c.requires.is c.header-header.ensures.of_cell found.at c.args.name
    (located_named c.args.main.now.paths found c.header-header.result.shape c.args.name located of_shape named)).has

pub returns-in-Some : goal.returns-in-Some
returns-in-Some c graph plain shows is =
    let header_at = c.header-header.ensures.of_cell in
    let (located, of_shape, named) = c.in-Some.ensures.found in
    let found = c.in-Some.found in
    let taken = subst (λ (main : Mutator). TakingOut main c.take_out.new.main c.args.object c.header-header.result
    found.at c.take_out.result) c.lookup.ensures.same c.take_out.ensures in
    field_deleted shows is header_at
    (field_found shows is header_at found.at c.args.name
    (located_named c.args.main.now.paths found c.header-header.result.shape c.args.name located of_shape named))
    c.take_out.new.main c.take_out.result taken

pub returns-in-None : goal.returns-in-None
returns-in-None c graph plain shows is =
    let none = none_deleted c.args.name shows is c.header-header.ensures.of_cell (c.in-None.ensures.none.0 refl) in
    subst (λ (main : Mutator). DeletesField c.args.main.now main graph c.args.object plain c.args.name (Ok tt))
    (sym c.lookup.ensures.same) none
