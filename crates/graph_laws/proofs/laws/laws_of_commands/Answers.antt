use Rattle.graph_laws.proofs.Stays.{objects_stay, paths_stay, collections_change_nothing}
use Rattle.graph_laws.proofs.laws.laws_of_commands.Goals as goal

pub returns : goal.returns
returns c = record {
  objects_stay = objects_stay;
  paths_stay = paths_stay;
  collections_change_nothing = collections_change_nothing;
}
