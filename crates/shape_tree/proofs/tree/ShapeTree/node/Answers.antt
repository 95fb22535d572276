-- The node at the place of a shape tells of its path.
use Rattle.shape_tree.proofs.HeldNodes.{IsNodeOf-shown}
use Rattle.shape_tree.proofs.tree.ShapeTree.node.Goals as goal

pub returns : goal.returns
returns c =
    IsNodeOf-shown c.self.inside c.args.self.now c.args.shape c.index.result.now c.self.invariant
    c.self.view_is c.requires
    c.index.ensures
