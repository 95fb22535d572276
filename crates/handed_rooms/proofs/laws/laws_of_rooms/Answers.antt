-- Both laws are proved for all workers.
use Rattle.handed_rooms.proofs.TakenIn.{taken_in_are_copying, taken_in_end_with_0}
use Rattle.handed_rooms.proofs.laws.laws_of_rooms.Goals as goal

pub returns : goal.returns
returns c = record { copying = taken_in_are_copying; ends = taken_in_end_with_0 }
