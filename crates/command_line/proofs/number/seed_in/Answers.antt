-- Digits past 64 bits are past the most.
use Rattle.std.proofs.Common.{◌-◌, ◌^◌, arith, rules}
use Rattle.command_line.proofs.Numerals.{unread_digits}
use Rattle.command_line.proofs.number.seed_in.Goals as goal

pub returns-in_default : goal.returns-in_default
returns-in_default c =
    unread_digits 64 0 (2 ^ 64 - 1) c.args.text.now c.parse.result c.in_default.field-0 (omega arith)
    (search rules) c.parse.ensures.value.0 c.in_default.is
