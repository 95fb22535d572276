-- The path with the field more may be a path, and nothing is added where it is there.
use Rattle.std.proofs.Common.{subst}
use Rattle.shape_tree.specs.Shapes.{shape_path, stepped}
use Rattle.shape_tree.specs.Growth.{IsStep}
use Rattle.shape_tree.proofs.ChangedPaths.{IsPath-stepped}
use Rattle.shape_tree.proofs.HeldNodes.{shape_path_is}
use Rattle.shape_tree.proofs.LedPaths.{leads_there, leads_added}
use Rattle.shape_tree.proofs.tree.ShapeTree.step.Goals as goal

pub add-requires-clause-is : goal.add-requires-clause-is
add-requires-clause-is c =
    let paths = c.args.self.now in
    let good = c.paths_fit.ensures.good in
    IsPath-stepped (shape_path paths c.args.shape) c.args.field.name c.args.field.rep
    (shape_path_is paths c.args.shape good c.requires.path) c.requires.is_new c.requires.room

pub returns-in-Found : goal.returns-in-Found
returns-in-Found c =
    let paths = c.args.self.now in
    let path = stepped (shape_path paths c.args.shape) c.args.field.name c.args.field.rep in
    leads_there paths path c.in-Found.next c.paths_fit.ensures.good
    (subst (IsStep paths path) c.in-Found.is c.requires.step)

pub returns-in-Missing : goal.returns-in-Missing
returns-in-Missing c =
    let paths = c.args.self.now in
    let path = stepped (shape_path paths c.args.shape) c.args.field.name c.args.field.rep in
    let lacks = subst (IsStep paths path) c.in-Missing.is c.requires.step in
    leads_added paths c.add.new.self c.args.shape c.add.result c.args.field
    c.paths_fit.ensures.good c.requires.path lacks.0 lacks.1
    c.add.ensures.added c.add.ensures.shape
