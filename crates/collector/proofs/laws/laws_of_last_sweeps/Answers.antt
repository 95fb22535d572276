use Rattle.collector.proofs.SweptBorn.{swept_is_born}
use Rattle.collector.proofs.laws.laws_of_last_sweeps.Goals as goal

pub returns : goal.returns
returns c = swept_is_born
