use Rattle.live_cells.proofs.DeadIsFree.{swept_dead_is_free, moved_dead_is_free}
use Rattle.live_cells.proofs.DeadWords.{no_run_fits_none, runs_fit}
use Rattle.live_cells.proofs.laws.laws_of_fitting.Goals as goal

pub returns-clause-nowhere : goal.returns-clause-nowhere
returns-clause-nowhere c = no_run_fits_none

pub returns-clause-runs : goal.returns-clause-runs
returns-clause-runs c = runs_fit

pub returns-clause-swept : goal.returns-clause-swept
returns-clause-swept c = swept_dead_is_free

pub returns-clause-moved : goal.returns-clause-moved
returns-clause-moved c = moved_dead_is_free
