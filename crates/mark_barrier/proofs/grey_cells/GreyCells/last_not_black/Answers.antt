-- Each cell that is taken off the list is looked at.
use Rattle.std.proofs.Common.{true, false, refl, sym, subst, ◌∙◌, arith}
use Rattle.std.proofs.lemmas.Bool.{false≢true}
use Rattle.mark_barrier.specs.Paid.{FindsNone}
use Rattle.mark_barrier.proofs.Passing.{finds_last, finds_none, looks_at, passes_on}
use Rattle.mark_barrier.proofs.grey_cells.GreyCells.last_not_black.Goals as goal

pub returns-then-not-passes-clause-found : goal.returns-then-not-passes-clause-found
returns-then-not-passes-clause-found c =
    let popped = c.in-Some.ensures in
    let over = c.if-not-passes.ensures in
    finds_last c.args.seat.now c.args.self.now c.loop-at.self c.passes.new.self c.in-Some.at false
    c.loop-at.invariant.passes
    (looks_at c.args.seat.now c.loop-at.seat c.loop-at.self c.pop_listed.new.self c.passes.new.self c.in-Some.at
    false c.loop-at.invariant.same popped.last popped.gone popped.bound popped.passed over.list over.bound
    over.told over.mine over.black over.not_black over.others over.kept) false≢true
    (omega (arith, popped.below, c.loop-at.invariant.passes.paid.lists.room.list))

pub loop-at-preserved : goal.loop-at-preserved
loop-at-preserved c =
    let popped = c.in-Some.ensures in
    let over = c.if-not-passes.ensures in
    record {
      same = over.same ∙ c.loop-at.invariant.same;
      passes = passes_on c.args.seat.now c.args.self.now c.loop-at.self c.passes.new.self c.in-Some.at true
          c.loop-at.invariant.passes
          (looks_at c.args.seat.now c.loop-at.seat c.loop-at.self c.pop_listed.new.self c.passes.new.self c.in-Some.at
          true c.loop-at.invariant.same popped.last popped.gone popped.bound popped.passed over.list
          over.bound over.told over.mine over.black over.not_black over.others over.kept) refl;
    }

pub returns-clause-found : goal.returns-clause-found
returns-clause-found c =
    subst (FindsNone c.args.seat.now c.args.self.now) (sym c.in_default.ensures.unchanged)
    (finds_none c.args.seat.now c.args.self.now c.loop-at.self c.loop-at.invariant.passes c.in_default.ensures.last)
