use Rattle.scav_core.proofs.Relying.{events_stay}
use Rattle.scav_core.proofs.laws.laws_of_what_stays.Goals as goal

pub returns : goal.returns
returns c = events_stay
