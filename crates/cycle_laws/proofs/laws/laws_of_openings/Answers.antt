use Rattle.cycle_laws.proofs.FirstWorlds.{first_worlds_are_fresh}
use Rattle.cycle_laws.proofs.Opening.{cycles_open}
use Rattle.cycle_laws.proofs.laws.laws_of_openings.Goals as goal

pub returns-clause-open : goal.returns-clause-open
returns-clause-open c = cycles_open

pub returns-clause-fresh : goal.returns-clause-fresh
returns-clause-fresh c = first_worlds_are_fresh
