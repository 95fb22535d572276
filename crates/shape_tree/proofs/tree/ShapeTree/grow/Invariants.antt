use Rattle.std.proofs.Common.{length}
use Rattle.shape_tree.specs.Shapes.{shape_path}
use Rattle.shape_tree.specs.Growth.{extended}
use Rattle.shape_tree.proofs.GrownLists.{Grows}
use Rattle.shape_tree.proofs.tree.ShapeTree.grow.Given as goal

abbrev pub invariant-loop-rest : goal.invariant-loop-rest
invariant-loop-rest l = Grows l.fn.self (extended (shape_path l.fn.self l.from) l.tail) l.self l.shape l.rest

abbrev pub decreases-loop-rest : goal.decreases-loop-rest
decreases-loop-rest l = length l.rest
