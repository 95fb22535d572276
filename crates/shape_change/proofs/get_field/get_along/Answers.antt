-- A variable holds what was found, or undefined.
use Rattle.std.proofs.Common.{◌≡◌, ◌<◌, sym, subst, refl}
use Rattle.handle_roots.specs.declared.held.Held.TheVariants as held
use Rattle.handle_roots.specs.Roots.{with_root}
use Rattle.write_barrier.specs.Seats.{heap_words}
use Rattle.write_barrier.specs.MutatorState.{Mutator, with_variable}
use Rattle.shape_change.proofs.FieldsAlong.{first_field, found_one, found_none, sought_held, undefined_held}
use Rattle.shape_change.proofs.get_field.get_along.Goals as goal

pub returns-then-hold_along : goal.returns-then-hold_along
returns-then-hold_along c graph plain shows is =
    sought_held
    (found_one c.args.variable c.args.first (first_field c.args.name) refl c.if-hold_along.true c.hold_along.ensures
    graph plain shows is)

pub hold-requires : goal.hold-requires
hold-requires c =
    let none = found_none c.args.variable c.args.first (first_field c.args.name) refl c.requires.plain
    c.if-hold_along.false c.hold_along.ensures in
    record {
      known = subst (λ (main : Mutator). c.args.variable < main.seat.space.variables) (sym none.same) c.requires.known;
    }

pub returns : goal.returns
returns c graph plain shows is =
    let none = found_none c.args.variable c.args.first (first_field c.args.name) refl c.requires.plain
    c.if-hold_along.false c.hold_along.ensures in
    let becomes = subst (λ (main : Mutator). c.hold.new.self ≡ with_variable main c.args.variable held.Undefined)
    none.same c.hold.ensures.held in
    let words = subst (λ (main : Mutator). heap_words c.hold.new.self.seat
    ≡ with_root main.seat.space (heap_words main.seat) c.args.variable held.Undefined) none.same c.hold.ensures.heap in
    undefined_held (none.none graph plain shows is) becomes words
