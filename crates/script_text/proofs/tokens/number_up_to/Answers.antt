-- A number that is beyond 64 bits is more than the most.
use Rattle.std.proofs.Common.{arith, ◌<◌, ◌+◌, ◌*◌, ◌-◌, get_or, ◌∙◌}
use Rattle.script_text.proofs.Digits.{digits_after-stop}
use Rattle.script_text.proofs.tokens.number_up_to.Goals as goal

pub returns-in_err-checked_mul : goal.returns-in_err-checked_mul
returns-in_err-checked_mul c =
    let over : c.args.most < 10 * c.loop-digit.number + (get_or c.args.digits.now c.loop-digit.digit-index 0 - 48) =
    omega (arith, c.in_err-checked_mul.ensures) in
    c.from_residual.ensures
    ∙ digits_after-stop c.args.most c.loop-digit.number c.loop-digit.digit-index c.args.digits.now
    (omega arith) c.loop-digit.invariant over

pub returns-in_err-number : goal.returns-in_err-number
returns-in_err-number c =
    let over : c.args.most < 10 * c.loop-digit.number + (get_or c.args.digits.now c.loop-digit.digit-index 0 - 48) =
    omega (arith, c.in_err-number.ensures, c.in_ok-checked_mul.ensures) in
    c.from_residual-in_err-number.ensures
    ∙ digits_after-stop c.args.most c.loop-digit.number c.loop-digit.digit-index c.args.digits.now
    (omega arith) c.loop-digit.invariant over
