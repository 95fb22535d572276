use Rattle.scav_copy.proofs.Ending.{end_is_renaming}
use Rattle.scav_copy.proofs.laws.laws_of_renaming.Goals as goal

pub returns : goal.returns
returns c = record { end = end_is_renaming }
