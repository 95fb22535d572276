-- The field is sought: one that is there is set, and a new one added.
use Rattle.std.proofs.Common.{sym, ◌∙◌, ap, subst, arith, Some, Err}
use Rattle.std.specs.Prelude.{option_map}
use Rattle.heap_model.specs.Types.{Field, Held}
use Rattle.write_barrier.specs.MutatorState.{Mutator, MainShows, heap_of}
use Rattle.write_barrier.specs.Reading.{IsHeaderAt}
use Rattle.object_cells.specs.CellsAt.{HasField}
use Rattle.object_cells.specs.HeldValues.{IsValueHeld}
use Rattle.object_cells.specs.PlainObjects.{IsPlainAt}
use Rattle.shape_change.specs.declared.stop.FieldStop.TheVariants as stop
use Rattle.shape_change.specs.FieldChanges.{IsShownSetting}
use Rattle.shape_change.proofs.SetsTold.{not_plain, plain_sets, may_still, sets_before}
use Rattle.shape_change.proofs.ShownFields.{shown_shape, field_found, located_named}
use Rattle.shape_change.proofs.set_field.set_sought.Goals as goal

pub returns-then-header-lt-PATHS : goal.returns-then-header-lt-PATHS
returns-then-header-lt-PATHS o c = (
  Err stop.NotPlain,
  c.refused.ensures,
  not_plain c.args.main.now c.args.object c.args.header c.args.name c.args.value
      (omega (arith, c.if-header-lt-PATHS.true)),
)

pub lookup-requires : goal.lookup-requires
lookup-requires o c =
    let setting = c.requires.may.plain (omega (arith, c.if-header-lt-PATHS.false)) in
    shown_shape setting.shows setting.is c.requires.may.headed

pub set_there-requires-clause-shown : goal.set_there-requires-clause-shown
set_there-requires-clause-shown o c =
    let setting = c.requires.may.plain (omega (arith, c.if-header-lt-PATHS.false)) in
    subst (λ (main : Mutator). IsShownSetting main c.args.object c.held.result) (sym c.lookup.ensures.same)
    (subst (λ (held : Held). IsShownSetting c.args.main.now c.args.object held)
    (sym (c.held.ensures c.requires.may.held c.requires.may.gives)) setting)

pub set_there-requires-clause-headed : goal.set_there-requires-clause-headed
set_there-requires-clause-headed o c =
    subst (λ (main : Mutator). IsHeaderAt (heap_of main) c.args.object c.args.header) (sym c.lookup.ensures.same)
    c.requires.may.headed

pub set_there-requires-clause-there : goal.set_there-requires-clause-there
set_there-requires-clause-there o c =
    let setting = c.requires.may.plain (omega (arith, c.if-header-lt-PATHS.false)) in
    let (located, of_shape, named) = c.in-Some.ensures.found in
    let found = c.in-Some.found in
    let at = field_found setting.shows setting.is c.requires.may.headed found.at c.args.name
    (located_named c.args.main.now.paths found c.args.header.shape c.args.name located of_shape named) in
    subst (λ (main : Mutator). HasField (heap_of main) c.args.object c.args.header.shape found.at)
    (sym c.lookup.ensures.same) at.has

pub returns-in-Some : goal.returns-in-Some
returns-in-Some o c =
    let (located, of_shape, named) = c.in-Some.ensures.found in
    let found = c.in-Some.found in
    let before = sym c.lookup.ensures.same in (
      c.set_there.result,
      c.told.ensures,
      sets_before c.lookup.ensures.same (plain_sets c.set_there.result (omega (arith, c.if-header-lt-PATHS.false))
          (λ held gives graph plain what shows is holds.
          let at = field_found (subst (λ (main : Mutator). MainShows main graph) c.lookup.ensures.same shows)
          (subst (λ (main : Mutator). IsPlainAt main graph c.args.object plain) c.lookup.ensures.same is)
          c.requires.may.headed found.at c.args.name
          (located_named c.args.main.now.paths found c.args.header.shape c.args.name located of_shape named) in
          c.set_there.ensures graph plain what c.args.name shows is
          (subst (λ (h : Held). IsValueHeld c.lookup.new.self graph h what) (sym (c.held.ensures held gives)) holds)
          (ap (option_map (λ (field : Field). field.name)) at.there ∙ ap Some at.named))),
    )

pub add-requires-clause-may : goal.add-requires-clause-may
add-requires-clause-may o c = may_still c.lookup.ensures.same c.requires.may

pub returns-in-None : goal.returns-in-None
returns-in-None o c =
    let (came, tells, sets) = c.add.ensures in (came, tells, sets_before c.lookup.ensures.same sets)
