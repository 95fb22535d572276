-- Of the path with the field more either nothing is missing or it alone is.
use Rattle.std.proofs.Common.{IfErr, arith}
use Rattle.shape_tree.specs.Shapes.{LacksPathsFor, shape_path, stepped}
use Rattle.shape_tree.proofs.LedPaths.{refused_with, none_missing, one_missing}
use Rattle.shape_tree.proofs.tree.ShapeTree.can_step.Goals as goal

pub returns-in_err-room_for-in-None-clause-full : goal.returns-in_err-room_for-in-None-clause-full
returns-in_err-room_for-in-None-clause-full c =
    let paths = c.args.self.now in
    let path = stepped (shape_path paths c.args.shape) c.args.field.name c.args.field.rep in
    refused_with (λ answer. IfErr answer (LacksPathsFor paths paths path)) c.from_residual.result
    c.in_err-room_for-in-None.field-0.0 c.from_residual.ensures.1
    (c.in_err-room_for-in-None.ensures.full path
    (one_missing paths c.args.shape c.args.field c.paths_fit.ensures.good
    c.requires.path c.in-None.ensures))

pub returns-in-Some-clause-room : goal.returns-in-Some-clause-room
returns-in-Some-clause-room c =
    let paths = c.args.self.now in
    let good = c.paths_fit.ensures.good in
    omega (
      arith,
      good.few,
      none_missing paths (stepped (shape_path paths c.args.shape) c.args.field.name c.args.field.rep) c.in-Some.next
          good c.in-Some.ensures,
    )

pub returns-in_ok-room_for-in-None-clause-room : goal.returns-in_ok-room_for-in-None-clause-room
returns-in_ok-room_for-in-None-clause-room c =
    omega (
      arith,
      c.in_ok-room_for-in-None.ensures.room,
      one_missing c.args.self.now c.args.shape c.args.field c.paths_fit.ensures.good
          c.requires.path c.in-None.ensures,
    )
