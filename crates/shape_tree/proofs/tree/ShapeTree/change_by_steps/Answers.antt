-- Nothing is added where the path is there.
use Rattle.std.proofs.Common.{}
use Rattle.shape_tree.specs.Shapes.{shape_path, changed}
use Rattle.shape_tree.proofs.LedPaths.{leads_there}
use Rattle.shape_tree.proofs.tree.ShapeTree.change_by_steps.Goals as goal

pub returns-in-Some-clause-changed : goal.returns-in-Some-clause-changed
returns-in-Some-clause-changed c =
    let paths = c.args.self.now in
    leads_there paths (changed (shape_path paths c.args.shape) c.args.at c.args.rep) c.in-Some.next
    c.paths_fit.ensures.good c.in-Some.ensures
