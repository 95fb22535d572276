use Rattle.cycle_laws.proofs.ReachedKept.{reached_is_kept, live_is_kept}
use Rattle.cycle_laws.proofs.laws.laws_of_reached_cells.Goals as goal

pub returns-clause-reached : goal.returns-clause-reached
returns-clause-reached c = reached_is_kept

pub returns-clause-live : goal.returns-clause-live
returns-clause-live c = live_is_kept
