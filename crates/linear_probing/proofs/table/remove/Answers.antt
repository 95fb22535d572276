use Rattle.std.proofs.Common.{length}
use Rattle.linear_probing.proofs.Removals.{removal_begins}
use Rattle.linear_probing.proofs.Turns.{ends_at_last, ends_at_none, turn_left, turn_moves, turn_passes, IsTurn}
use Rattle.linear_probing.proofs.table.remove.Goals as goal

pub loop-passed-init : goal.loop-passed-init
loop-passed-init c = removal_begins c.args.table.now c.args.at c.requires.within

pub returns-in_default-clause-found : goal.returns-in_default-clause-found
returns-in_default-clause-found c =
    let turn : IsTurn c.loop-passed.table (length c.args.table.now) c.loop-passed.hole c.loop-passed.passed
    c.place-next.result =
    record { as_long = c.loop-passed.auto.table; few = c.loop-passed-test.true; next_is = c.place-next.ensures } in
    ends_at_none c.args.table.now c.loop-passed.table c.args.at (length c.args.table.now) c.loop-passed.hole
    c.loop-passed.passed c.place-next.result c.loop-passed.invariant turn c.in_default.not-Some

pub loop-passed-preserved-then-steps-passed : goal.loop-passed-preserved-then-steps-passed
loop-passed-preserved-then-steps-passed c =
    let turn : IsTurn c.loop-passed.table (length c.args.table.now) c.loop-passed.hole c.loop-passed.passed
    c.place-next.result =
    record { as_long = c.loop-passed.auto.table; few = c.loop-passed-test.true; next_is = c.place-next.ensures } in
    turn_passes c.args.table.now c.loop-passed.table c.args.at (length c.args.table.now) c.loop-passed.hole
    c.loop-passed.passed c.place-next.result c.in-Some.number c.steps.result c.loop-passed.invariant turn c.in-Some.is
    c.steps.ensures c.if-steps-passed.true

pub loop-passed-smaller : goal.loop-passed-smaller
loop-passed-smaller c =
    let turn : IsTurn c.loop-passed.table (length c.args.table.now) c.loop-passed.hole c.loop-passed.passed
    c.place-next.result =
    record { as_long = c.loop-passed.auto.table; few = c.loop-passed-test.true; next_is = c.place-next.ensures } in
    turn_left c.args.table.now c.loop-passed.table c.args.at (length c.args.table.now) c.loop-passed.hole
    c.loop-passed.passed c.place-next.result c.in-Some.number c.steps.result c.loop-passed.invariant turn c.in-Some.is
    c.steps.ensures c.if-steps-passed.false

pub loop-passed-preserved : goal.loop-passed-preserved
loop-passed-preserved c =
    let turn : IsTurn c.loop-passed.table (length c.args.table.now) c.loop-passed.hole c.loop-passed.passed
    c.place-next.result =
    record { as_long = c.loop-passed.auto.table; few = c.loop-passed-test.true; next_is = c.place-next.ensures } in
    turn_moves c.args.table.now c.loop-passed.table c.args.at (length c.args.table.now) c.loop-passed.hole
    c.loop-passed.passed c.place-next.result c.in-Some.number c.steps.result c.loop-passed.invariant turn c.in-Some.is
    c.steps.ensures c.if-steps-passed.false

pub returns-clause-found : goal.returns-clause-found
returns-clause-found c =
    ends_at_last c.args.table.now c.loop-passed.table c.args.at (length c.args.table.now) c.loop-passed.hole
    c.loop-passed.passed c.loop-passed.invariant c.loop-passed.auto.table c.loop-passed-test.false
