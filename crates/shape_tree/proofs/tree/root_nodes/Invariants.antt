use Rattle.std.proofs.Common.{◌≡◌, ◌≤◌, map, vec_len, vec_capacity}
use Rattle.std.specs.List.{range_with_len}
use Rattle.shape_tree.specs.Nodes.{root_node_of}
use Rattle.shape_tree.proofs.tree.root_nodes.Given as goal

abbrev pub invariant-loop-cap : goal.invariant-loop-cap
invariant-loop-cap l = record {
  roots : l.nodes.items ≡ map root_node_of (range_with_len 0 l.cap);
  len : vec_len l.nodes ≡ l.cap;
  room : 8192 ≤ vec_capacity l.nodes;
}
