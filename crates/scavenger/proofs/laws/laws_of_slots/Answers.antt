use Rattle.scavenger.proofs.Targets.{slots_have_targets}
use Rattle.scavenger.proofs.laws.laws_of_slots.Goals as goal

pub returns : goal.returns
returns c = record { targets = slots_have_targets }
