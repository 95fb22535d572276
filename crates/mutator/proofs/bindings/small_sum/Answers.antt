-- The sum of two integers, the first of which is small, is what 64 bits of it stand for, where that is small.
use Rattle.std.proofs.Common.{w64, SFits, rules, refl, sym}
use Rattle.mutator.proofs.HeldValues.{is_root}
use Rattle.mutator.proofs.SmallSums.{finds_small_sum}
use Rattle.mutator.proofs.StillShown.{some_still, shows_still}
use Rattle.mutator.proofs.bindings.small_sum.Goals as goal

pub small-requires-clause-root : goal.small-requires-clause-root
small-requires-clause-root c = is_root c.args.x c.requires.shown.1 c.requires.within.0

pub integer_of-requires-clause-shown : goal.integer_of-requires-clause-shown
integer_of-requires-clause-shown c = some_still c.in_ok-first.ensures.same c.requires.shown

pub returns-then-is_small-clause-found : goal.returns-then-is_small-clause-found
returns-then-is_small-clause-found c graph names shows =
    let second = c.in_ok-second.second in
    let fits : SFits w64 second = search rules in
    let after = shows_still c.in_ok-first.ensures.same shows in
    let (small, holds) = c.in_ok-first.ensures.holds in
    finds_small_sum names c.args.x c.args.v.now c.in_ok-first.first second _ shows c.requires.within.0 small holds
    (sym (c.in_ok-second.ensures.found graph after)) fits refl (sym c.if-is_small.ensures)

pub returns-then-is_small-clause-was : goal.returns-then-is_small-clause-was
returns-then-is_small-clause-was c =
    let (small, holds) = c.in_ok-first.ensures.holds in (sym c.if-is_small.ensures, (c.in_ok-first.first, small, holds))
