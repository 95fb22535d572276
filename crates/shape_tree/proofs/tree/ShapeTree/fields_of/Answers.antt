-- The path of a shape is a path.
use Rattle.std.proofs.Common.{subst}
use Rattle.shape_tree.specs.Shapes.{AreShapes}
use Rattle.shape_tree.proofs.HeldNodes.{shape_path_is}
use Rattle.shape_tree.proofs.tree.ShapeTree.fields_of.Goals as goal

pub returns-clause-is : goal.returns-clause-is
returns-clause-is c =
    shape_path_is c.args.self.now c.args.shape (subst AreShapes c.self.view_is c.self.invariant.shapes) c.requires
