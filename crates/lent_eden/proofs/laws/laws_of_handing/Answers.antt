-- The laws are proved for all workers.
use Rattle.lent_eden.proofs.TakenBack.{taken_back_have_copied}
use Rattle.lent_eden.proofs.HandedOver.{workers_hand_over, workers_may_be_taken_in}
use Rattle.lent_eden.proofs.FewHanded.{handed_are_few}
use Rattle.lent_eden.proofs.laws.laws_of_handing.Goals as goal

pub returns : goal.returns
returns c = record {
  back = taken_back_have_copied;
  may = workers_may_be_taken_in;
  handed = workers_hand_over;
  few = handed_are_few;
}
