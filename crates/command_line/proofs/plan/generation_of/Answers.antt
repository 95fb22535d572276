-- The words are as many as their pattern has.
use Rattle.std.proofs.Common.{string_bytes}
use Rattle.command_line.proofs.Generations.{asked_of-two, asked_of-three, asked_of-few, asked_of-many}
use Rattle.command_line.proofs.plan.generation_of.Goals as goal

pub returns-in-len2 : goal.returns-in-len2
returns-in-len2 c =
    rw (c.asked_of_two.ensures, c.as_str.ensures.value, c.as_str-in-len2.ensures.value)
    (asked_of-two string_bytes c.args.words.now c.seed-item.result c.forms-item.result c.in-len2.len_at_least
    c.in-len2.len_below c.seed-item.is c.forms-item.is)

pub returns-in-len3 : goal.returns-in-len3
returns-in-len3 c =
    rw (
      c.asked_of_three.ensures,
      c.as_str-in-len3.ensures.value,
      c.as_str-in-len3-2.ensures.value,
      c.as_str-in-len3-3.ensures.value,
    )
    (asked_of-three string_bytes c.args.words.now c.first-item.result c.second-item.result c.third-item.result
    c.in-len3.len_at_least c.in-len3.len_below c.first-item.is c.second-item.is c.third-item.is)

pub returns-in_default : goal.returns-in_default
returns-in_default c = asked_of-few string_bytes c.args.words.now c.in_default.len_below

pub returns-in_default-2 : goal.returns-in_default-2
returns-in_default-2 c = asked_of-many string_bytes c.args.words.now c.in_default.len_at_least
