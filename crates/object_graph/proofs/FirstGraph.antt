-- The graph with which a run begins.
use Rattle.std.proofs.Common.{sym, ◌∙◌}
use Rattle.std.specs.Ordering.{nat_cmp}
use Rattle.std.specs.FinMap.{get-empty}
use Rattle.std.proofs.lemmas.Option.{none-some}
use Rattle.std.proofs.lemmas.List.Elements.{All-nil}
use Rattle.object_graph.specs.Graphs.{start}
use Rattle.object_graph.specs.Prototypes.{AreProtos}
use Rattle.object_graph.specs.Invariants.{IsObject, HasItsPath, IsGraph}
use Rattle.object_graph.proofs.FirstPaths.{empty_paths_are}

-- prototypes are in order where there is no object
no_protos : AreProtos start.objects
no_protos = record {
  plain = λ n p is. absurd (none-some p is);
  no_ring = λ k n ring. absurd (none-some n ring);
}

-- the graph of no object is a graph
pub start_is_graph : IsGraph start
start_is_graph = record {
  bound = λ x value at. absurd (none-some value (sym (get-empty nat_cmp x) ∙ at));
  made = All-nil (IsObject 0);
  paths = empty_paths_are;
  shaped = All-nil (HasItsPath start.paths);
  protos = no_protos;
}
