-- The field is that of the first object that has it.
use Rattle.std.proofs.Common.{◌<◌, Some, sym, subst, refl, arith}
use Rattle.write_barrier.specs.MutatorState.{Mutator, MainShows}
use Rattle.object_cells.specs.PlainObjects.{IsPlainAt, IsShownPlain}
use Rattle.shape_change.specs.Prototypes.{FindsProto}
use Rattle.shape_change.proofs.FieldsAlong.{own_field, found_one, found_none, shown_now, last_found}
use Rattle.shape_change.proofs.FieldsAlong.{sought_at_first, sought_own, sought_last, sought_next, sought_out}
use Rattle.shape_change.proofs.get_field.hold_along.Goals as goal

pub loop-turn-init : goal.loop-turn-init
loop-turn-init c = record { same = refl; from = λ graph plain shows is. sought_at_first c.args.name is }

pub hold_own-requires-clause-plain : goal.hold_own-requires-clause-plain
hold_own-requires-clause-plain c =
    let turn = c.loop-turn.invariant in
    subst (λ (main : Mutator). IsShownPlain main c.loop-turn.object) (sym turn.same)
    (shown_now c.args.first c.args.name c.loop-turn.object c.loop-turn._turn c.requires.plain turn.from)

pub hold_own-requires-clause-known : goal.hold_own-requires-clause-known
hold_own-requires-clause-known c =
    subst (λ (main : Mutator). c.args.variable < main.seat.space.variables) (sym c.loop-turn.invariant.same)
    c.requires.known

pub returns-then-hold_own : goal.returns-then-hold_own
returns-then-hold_own c graph plain shows is =
    let turn = c.loop-turn.invariant in
    let from = turn.from graph plain shows is in
    sought_own from (omega arith)
    (found_one c.args.variable c.loop-turn.object (own_field c.args.name) turn.same c.if-hold_own.true
    c.hold_own.ensures graph from.now shows from.is)

pub prototype-requires : goal.prototype-requires
prototype-requires c =
    let turn = c.loop-turn.invariant in
    let shown = shown_now c.args.first c.args.name c.loop-turn.object c.loop-turn._turn c.requires.plain turn.from in
    let none = found_none c.args.variable c.loop-turn.object (own_field c.args.name) turn.same shown
    c.if-hold_own.false c.hold_own.ensures in
    record { shown = subst (λ (main : Mutator). IsShownPlain main c.loop-turn.object) (sym none.same) shown }

pub loop-turn-preserved : goal.loop-turn-preserved
loop-turn-preserved c =
    let turn = c.loop-turn.invariant in
    let shown = shown_now c.args.first c.args.name c.loop-turn.object c.loop-turn._turn c.requires.plain turn.from in
    let none = found_none c.args.variable c.loop-turn.object (own_field c.args.name) turn.same shown
    c.if-hold_own.false c.hold_own.ensures in
    record {
      same = none.same;
      from = λ graph plain shows is.
          let from = turn.from graph plain shows is in
          let next = subst (λ (main : Mutator). MainShows main graph → IsPlainAt main graph c.loop-turn.object from.now
          → FindsProto main graph from.now (Some c.in-Some.next)) none.same (c.in-Some.ensures graph from.now) shows
          from.is in
          sought_next from c.in-Some.next (omega arith) (none.none graph from.now shows from.is) next;
    }

pub returns-in_default : goal.returns-in_default
returns-in_default c graph plain shows is =
    let turn = c.loop-turn.invariant in
    let shown = shown_now c.args.first c.args.name c.loop-turn.object c.loop-turn._turn c.requires.plain turn.from in
    let none = found_none c.args.variable c.loop-turn.object (own_field c.args.name) turn.same shown
    c.if-hold_own.false c.hold_own.ensures in
    let from = turn.from graph plain shows is in
    let found = c.prototype.result in
    let finds = subst (λ (main : Mutator). MainShows main graph → IsPlainAt main graph c.loop-turn.object from.now
    → FindsProto main graph from.now found) none.same (c.prototype.ensures graph from.now) shows from.is in
    let last = last_found c.args.main.now graph from.now found c.in_default.not-Some finds in
    (sought_last from (omega arith) (none.none graph from.now shows from.is) last, none.same)

pub returns : goal.returns
returns c graph plain shows is =
    let from = c.loop-turn.invariant.from graph plain shows is in
    (sought_out from (omega arith), c.loop-turn.invariant.same)
