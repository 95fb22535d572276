-- Nothing is added where the path is there.
use Rattle.std.proofs.Common.{}
use Rattle.shape_tree.specs.Shapes.{shape_path, without}
use Rattle.shape_tree.proofs.LedPaths.{leads_there}
use Rattle.shape_tree.proofs.tree.ShapeTree.without_by_steps.Goals as goal

pub returns-in-Some-clause-taken_out : goal.returns-in-Some-clause-taken_out
returns-in-Some-clause-taken_out c =
    let paths = c.args.self.now in
    leads_there paths (without (shape_path paths c.args.shape) c.args.at) c.in-Some.next
    c.paths_fit.ensures.good c.in-Some.ensures
