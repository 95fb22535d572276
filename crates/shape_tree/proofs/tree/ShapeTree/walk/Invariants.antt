use Rattle.std.proofs.Common.{◌≡◌, length}
use Rattle.shape_tree.specs.Shapes.{IsPathShape, shape_path}
use Rattle.shape_tree.specs.Growth.{extended}
use Rattle.shape_tree.proofs.tree.ShapeTree.walk.Given as goal

abbrev pub invariant-loop-rest : goal.invariant-loop-rest
invariant-loop-rest l = record {
  at : IsPathShape l.self l.shape;
  same : extended (shape_path l.self l.shape) l.rest ≡ extended (shape_path l.self l.from) l.tail;
}

abbrev pub decreases-loop-rest : goal.decreases-loop-rest
decreases-loop-rest l = length l.rest
