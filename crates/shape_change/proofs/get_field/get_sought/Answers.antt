-- The field is the object's, or one that is found by its prototypes.
use Rattle.std.proofs.Common.{◌<◌, sym, subst, refl, arith}
use Rattle.write_barrier.specs.MutatorState.{Mutator}
use Rattle.object_cells.specs.PlainObjects.{IsShownPlain}
use Rattle.shape_change.specs.FieldsSought.{HoldsAlong, LacksName}
use Rattle.shape_change.proofs.FieldsAlong.{own_field, found_one, found_none, own_held}
use Rattle.shape_change.proofs.get_field.get_sought.Goals as goal

pub hold_sought-requires-clause-plain : goal.hold_sought-requires-clause-plain
hold_sought-requires-clause-plain c = c.requires.plain (omega (arith, c.if-header-lt-PATHS.false))

pub returns-then-hold_sought-clause-held : goal.returns-then-hold_sought-clause-held
returns-then-hold_sought-clause-held c well graph plain shows is =
    own_held graph plain c.args.name
    (found_one c.args.variable c.args.object (own_field c.args.name) refl c.if-hold_sought.true c.hold_sought.ensures
    graph plain shows is)

pub get_beyond-requires-clause-plain : goal.get_beyond-requires-clause-plain
get_beyond-requires-clause-plain c =
    let shown = c.requires.plain (omega (arith, c.if-header-lt-PATHS.false)) in
    let none = found_none c.args.variable c.args.object (own_field c.args.name) refl shown c.if-hold_sought.false
    c.hold_sought.ensures in
    subst (λ (main : Mutator). IsShownPlain main c.args.object) (sym none.same) shown

pub get_beyond-requires-clause-lacks : goal.get_beyond-requires-clause-lacks
get_beyond-requires-clause-lacks c =
    let shown = c.requires.plain (omega (arith, c.if-header-lt-PATHS.false)) in
    let none = found_none c.args.variable c.args.object (own_field c.args.name) refl shown c.if-hold_sought.false
    c.hold_sought.ensures in
    subst (λ (main : Mutator). LacksName main c.args.object c.args.name) (sym none.same) none.none

pub get_beyond-requires-clause-known : goal.get_beyond-requires-clause-known
get_beyond-requires-clause-known c =
    let shown = c.requires.plain (omega (arith, c.if-header-lt-PATHS.false)) in
    let none = found_none c.args.variable c.args.object (own_field c.args.name) refl shown c.if-hold_sought.false
    c.hold_sought.ensures in
    subst (λ (main : Mutator). c.args.variable < main.seat.space.variables) (sym none.same) c.requires.known

pub returns-clause-held : goal.returns-clause-held
returns-clause-held c well =
    let shown = c.requires.plain (omega (arith, c.if-header-lt-PATHS.false)) in
    let none = found_none c.args.variable c.args.object (own_field c.args.name) refl shown c.if-hold_sought.false
    c.hold_sought.ensures in
    subst (λ (main : Mutator). HoldsAlong main c.get_beyond.new.main c.args.variable c.args.object c.args.name)
    none.same c.get_beyond.ensures
