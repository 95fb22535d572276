use Rattle.std.proofs.Common.{sym, ◌∙◌}
use Rattle.scav_core.proofs.Stepping.{none_later, first_is_place}
use Rattle.scav_core.proofs.step.insertion_index.Goals as goal

pub returns-in-None : goal.returns-in-None
returns-in-None c = none_later c.args.homes.now c.args.from (sym c.first_later.ensures ∙ c.in-None.is)

pub returns-in-Some : goal.returns-in-Some
returns-in-Some c =
    first_is_place c.args.homes.now c.args.from c.in-Some.at (sym c.first_later.ensures ∙ c.in-Some.is)
