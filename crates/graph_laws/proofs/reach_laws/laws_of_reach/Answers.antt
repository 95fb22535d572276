use Rattle.graph_laws.proofs.Reaches.{reach_has_bound, reach_closed, reach_least}
use Rattle.graph_laws.proofs.reach_laws.laws_of_reach.Goals as goal

pub returns : goal.returns
returns c = record { has_bound = reach_has_bound; is_closed = reach_closed; is_least = reach_least }
