use Rattle.live_cells.proofs.ExactHeaps.{tight_is_exact, moved_is_exact}
use Rattle.live_cells.proofs.KeptOnly.{moves_for_reached, swept_keeps_no_other, moved_keeps_no_other}
use Rattle.live_cells.proofs.LiveKept.{live_is_for_reached}
use Rattle.live_cells.proofs.laws.laws_of_exact_heaps.Goals as goal

pub returns-clause-of_reached : goal.returns-clause-of_reached
returns-clause-of_reached c = moves_for_reached

pub returns-clause-live : goal.returns-clause-live
returns-clause-live c = live_is_for_reached

pub returns-clause-swept : goal.returns-clause-swept
returns-clause-swept c = swept_keeps_no_other

pub returns-clause-moved : goal.returns-clause-moved
returns-clause-moved c = moved_keeps_no_other

pub returns-clause-tight : goal.returns-clause-tight
returns-clause-tight c = tight_is_exact

pub returns-clause-young : goal.returns-clause-young
returns-clause-young c = moved_is_exact
