use Rattle.scav_copy.proofs.Filling.{start_is_copying, rooms_may_be_filled}
use Rattle.scav_copy.proofs.Moving.{cells_may_move}
use Rattle.scav_copy.proofs.Redirecting.{slots_may_be_renamed}
use Rattle.scav_copy.proofs.laws.laws_of_copying.Goals as goal

pub returns : goal.returns
returns c = record {
  start = start_is_copying;
  filled = rooms_may_be_filled;
  moved = cells_may_move;
  renamed = slots_may_be_renamed;
}
