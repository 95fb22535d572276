-- How a proof tells two graphs apart: the code of a model's value.
use Rattle.std.specs.Prelude.{ℕ, List, refl}
use Rattle.std.specs.Coded.{Coded, code_by, coded×, coded_ℕ, coded_list}
use Rattle.std.specs.Ordering.{nat_cmp}
use Rattle.std.specs.FinMap.{FinMap, code}
use Rattle.object_graph.specs.contracts.value.Value as value
use Rattle.object_graph.specs.contracts.object.Object as object
use Rattle.object_graph.specs.contracts.path.Path as path
use Rattle.object_graph.specs.declared.value.Value.{Value}
use Rattle.object_graph.specs.declared.object.Object.{Object}
use Rattle.object_graph.specs.declared.path.Path.{Path}
use Rattle.object_graph.specs.Graphs.{Graph}
use Rattle.ideal_graph.specs.Steps.{NamedGraph}

-- a graph is stored as its objects, its bindings and its paths
abbrev pub graph_code : Coded Graph
graph_code =
    code_by (List Object × (FinMap nat_cmp Value × List Path))
    (coded× (coded_list object.the_row.coded)
    (coded× (code coded_ℕ value.the_row.coded) (coded_list path.the_row.coded)))
    (λ g. (g.objects, (g.bindings, g.paths)))
    (λ p. record { objects = p.0; bindings = p.1.0; paths = p.1.1 })
    (λ _. refl)

-- a graph with names is stored as the names and the graph
abbrev pub named_graph_code : Coded NamedGraph
named_graph_code =
    code_by (List (List ℕ) × Graph)
    (coded× (coded_list (coded_list coded_ℕ)) graph_code)
    (λ g. (g.names, g.graph))
    (λ p. record { names = p.0; graph = p.1 })
    (λ _. refl)
