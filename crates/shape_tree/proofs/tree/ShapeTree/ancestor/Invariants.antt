use Rattle.std.proofs.Common.{◌≤◌, length}
use Rattle.object_graph.specs.Paths.{prefix_of}
use Rattle.shape_tree.specs.Shapes.{IsShapeOf, shape_path}
use Rattle.shape_tree.proofs.tree.ShapeTree.ancestor.Given as goal

abbrev pub invariant-loop-left : goal.invariant-loop-left
invariant-loop-left l = record {
  above_count : l.count ≤ l.left;
  within : l.left ≤ length (shape_path l.self l.shape).fields;
  is : IsShapeOf l.self (prefix_of (shape_path l.self l.shape) l.left) l.above;
}

abbrev pub decreases-loop-left : goal.decreases-loop-left
decreases-loop-left l = l.left
