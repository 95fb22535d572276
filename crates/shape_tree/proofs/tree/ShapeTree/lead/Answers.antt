-- What is missing is what is left of the walk.
use Rattle.std.proofs.Common.{◌≡◌, ◌+◌, ◌≤◌, ◌++◌, length, arith, subst}
use Rattle.std.specs.Prelude.{IfErr}
use Rattle.object_graph.specs.Paths.{missing}
use Rattle.object_graph.specs.Limits.{paths_most}
use Rattle.shape_tree.specs.Shapes.{LacksPathsFor, IsShapeOf, shape_path}
use Rattle.shape_tree.specs.Growth.{extended}
use Rattle.shape_tree.proofs.GrownLists.{length-missing_walk}
use Rattle.shape_tree.proofs.LedPaths.{refused_with, with_path-added}
use Rattle.shape_tree.proofs.tree.ShapeTree.lead.Goals as goal

pub returns-in_err-room_for-clause-full : goal.returns-in_err-room_for-clause-full
returns-in_err-room_for-clause-full c =
    let old = c.args.self.now in
    let path = extended (shape_path old c.args.from) c.args.tail.now in
    refused_with (λ answer. IfErr answer (LacksPathsFor old old path)) c.from_residual.result
    c.in_err-room_for.field-0.0 c.from_residual.ensures.1
    (c.in_err-room_for.ensures.full path (length-missing_walk old path c.walk-walk.result c.walk-walk.ensures))

pub returns-clause-led : goal.returns-clause-led
returns-clause-led c =
    let old = c.args.self.now in
    let new = c.grow.new.self in
    let path = extended (shape_path old c.args.from) c.args.tail.now in
    let found = c.walk-walk.ensures in
    let few : length old + length (missing old path) ≤ paths_most =
    omega (arith, length-missing_walk old path c.walk-walk.result found, c.in_ok-room_for.ensures.room) in
    record {
      added =
          with_path-added old new path (subst (λ p. new ≡ old ++ missing old p) found.same c.grow.ensures.added) few;
      shape_is = subst (λ p. IsShapeOf new p c.grow.result) found.same c.grow.ensures.shape;
    }
