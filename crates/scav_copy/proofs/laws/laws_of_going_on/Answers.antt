use Rattle.scav_copy.proofs.Continuing.{copying_goes_on, slots_are_followed}
use Rattle.scav_copy.proofs.laws.laws_of_going_on.Goals as goal

pub returns : goal.returns
returns c = record { goes_on = copying_goes_on; followed = slots_are_followed }
