use Rattle.std.proofs.Common.{◌≡◌, drop}
use Rattle.script_text.specs.Tokens.{digits_after}
use Rattle.script_text.proofs.tokens.number_up_to.Given as goal

abbrev pub invariant-loop-digit : goal.invariant-loop-digit
invariant-loop-digit l = digits_after l.number (drop l.digit-index l.digits) ≡ digits_after 0 l.digits
