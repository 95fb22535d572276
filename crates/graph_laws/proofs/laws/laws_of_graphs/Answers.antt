use Rattle.object_graph.proofs.FirstGraph.{start_is_graph}
use Rattle.graph_laws.proofs.GraphsStay.{graphs_stay}
use Rattle.graph_laws.proofs.RunGraphs.{runs_make_graphs}
use Rattle.graph_laws.proofs.ShortPaths.{fields_are_few}
use Rattle.graph_laws.proofs.laws.laws_of_graphs.Goals as goal

pub returns : goal.returns
returns c = record {
  start = start_is_graph;
  stays = graphs_stay;
  runs = runs_make_graphs;
  few_fields = fields_are_few;
}
