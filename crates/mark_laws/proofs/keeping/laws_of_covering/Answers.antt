use Rattle.mark_laws.proofs.Blackness.{black_stays}
use Rattle.mark_laws.proofs.Coverage.{covered_stays}
use Rattle.mark_laws.proofs.Sureness.{sure_stays}
use Rattle.mark_laws.proofs.keeping.laws_of_covering.Goals as goal

pub returns-clause-covered : goal.returns-clause-covered
returns-clause-covered c = covered_stays

pub returns-clause-sure : goal.returns-clause-sure
returns-clause-sure c = sure_stays

pub returns-clause-black : goal.returns-clause-black
returns-clause-black c = black_stays
