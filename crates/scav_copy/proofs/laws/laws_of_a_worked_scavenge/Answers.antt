use Rattle.scav_copy.proofs.WorkedEnd.{end_is_worked, others_are_not}
use Rattle.scav_copy.proofs.WorkedStart.{worked_is_laid_out}
use Rattle.scav_copy.proofs.laws.laws_of_a_worked_scavenge.Goals as goal

pub returns : goal.returns
returns c = record { laid = worked_is_laid_out; end = end_is_worked; others = others_are_not }
