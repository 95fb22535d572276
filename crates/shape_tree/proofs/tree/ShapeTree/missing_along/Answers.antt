-- As many paths are missing as fields are left of the walk.
use Rattle.std.proofs.Common.{sym}
use Rattle.shape_tree.specs.Shapes.{shape_path}
use Rattle.shape_tree.specs.Growth.{extended}
use Rattle.shape_tree.proofs.GrownLists.{length-missing_walk}
use Rattle.shape_tree.proofs.tree.ShapeTree.missing_along.Goals as goal

pub returns : goal.returns
returns c =
    let path = extended (shape_path c.args.self.now c.args.from) c.args.tail.now in
    sym (length-missing_walk c.args.self.now path c.walk.result c.walk.ensures)
