use Rattle.mark_laws.proofs.BornSteps.{born_stays}
use Rattle.mark_laws.proofs.births.laws_of_births.Goals as goal

pub returns : goal.returns
returns c = born_stays
