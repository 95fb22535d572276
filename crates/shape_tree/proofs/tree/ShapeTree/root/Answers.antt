-- The paths of no field come first.
use Rattle.shape_tree.proofs.HeldNodes.{IsShapeOf-root}
use Rattle.shape_tree.proofs.tree.ShapeTree.root.Goals as goal

pub returns : goal.returns
returns c =
    IsShapeOf-root c.args.self.now c.args.cap c.paths_fit.ensures.good c.requires
