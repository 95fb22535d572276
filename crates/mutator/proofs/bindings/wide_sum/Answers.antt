-- The sum of two integers, the first of which is not small, and the second is: within 62 bits it does not wrap.
use Rattle.std.proofs.Common.{◌+ℤ◌, ◌∙◌, w64, SFits, rules}
use Rattle.std.proofs.lemmas.Int.{int_wrap_fits, wrapping_add_is}
use Rattle.mutator.proofs.HeldValues.{is_root}
use Rattle.mutator.proofs.IntegerSums.{finds_sum}
use Rattle.mutator.proofs.SmallSums.{integer_held}
use Rattle.mutator.proofs.StillShown.{some_still, shows_still}
use Rattle.mutator.proofs.bindings.wide_sum.Goals as goal

pub wide-requires-clause-root : goal.wide-requires-clause-root
wide-requires-clause-root c = is_root c.args.x c.requires.shown.1 c.requires.within.0

pub small_integer-requires-clause-shown : goal.small_integer-requires-clause-shown
small_integer-requires-clause-shown c = some_still c.in_ok-first.ensures.same c.requires.shown

pub returns-else-is_small-clause-found : goal.returns-else-is_small-clause-found
returns-else-is_small-clause-found c graph names shows =
    let first = c.in_ok-first.first in
    let second = c.in_ok-second.second in
    let (is_small, is) = c.in_ok-second.ensures.found in
    let after = shows_still c.in_ok-first.ensures.same shows in
    let first_fits : SFits w64 first = search rules in
    let second_fits : SFits w64 second = search rules in
    let fits : SFits w64 (first +ℤ second) = search rules in
    finds_sum names graph c.args.x c.args.v.now first second _
    (integer_held c.args.x first shows c.requires.within.0 c.in_ok-first.ensures.holds.1) (is graph after) fits
    (wrapping_add_is w64 first second first_fits second_fits ∙ int_wrap_fits w64 (first +ℤ second) fits)
