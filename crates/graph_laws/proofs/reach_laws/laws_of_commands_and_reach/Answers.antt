use Rattle.graph_laws.proofs.NothingNew.{only_made_is_new}
use Rattle.graph_laws.proofs.MadeObjects.{made_is_reached, made_is_unshared}
use Rattle.graph_laws.proofs.LostObjects.{lost_stays_lost}
use Rattle.graph_laws.proofs.reach_laws.laws_of_commands_and_reach.Goals as goal

pub returns : goal.returns
returns c = record {
  only_made_is_new = only_made_is_new;
  made_is_reached = made_is_reached;
  made_is_unshared = made_is_unshared;
  lost_stays_lost = lost_stays_lost;
}
