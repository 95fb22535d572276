use Rattle.script_laws.proofs.Refusals.{refuses_first, refuses_open}
use Rattle.script_laws.proofs.Passing.{counts_names_last}
use Rattle.script_laws.proofs.refusals_come_in_order.Goals as goal

pub returns-clause-first : goal.returns-clause-first
returns-clause-first c = refuses_first

pub returns-clause-open : goal.returns-clause-open
returns-clause-open c = refuses_open

pub returns-clause-names_last : goal.returns-clause-names_last
returns-clause-names_last c = counts_names_last
