use Rattle.mark_laws.proofs.SnapsSteps.{snaps_stay}
use Rattle.mark_laws.proofs.snapshots.laws_of_snapshots.Goals as goal

pub returns : goal.returns
returns c = snaps_stay
