-- The shapes are those of the heap.
use Rattle.std.proofs.Common.{◌+◌, ◌≤◌, List, length, sym, subst, arith}
use Rattle.std.specs.Prelude.{IfErr}
use Rattle.std.proofs.lemmas.Result.{IfErr-weaker}
use Rattle.object_graph.specs.Paths.{missing}
use Rattle.object_graph.specs.Limits.{paths_most}
use Rattle.heap_model.specs.Types.{Path}
use Rattle.shape_tree.specs.Shapes.{LacksPathsFor, shape_path, changed}
use Rattle.shape_change.proofs.FewMissing.{few_missing}
use Rattle.shape_change.proofs.set_slot.room_for_change.Goals as goal

pub returns-in-Ok-clause-room : goal.returns-in-Ok-clause-room
returns-in-Ok-clause-room c =
    let shapes = c.shapes-shapes.result.now in
    let path : Path = shape_path shapes c.args.shape in
    let few = few_missing shapes path c.args.slot c.args.rep in
    let counted = c.fields.ensures.counted in
    let room : length shapes + length (missing shapes (changed path c.args.slot c.args.rep)) ≤ paths_most =
    omega (arith, few, counted, c.in-Ok.ensures.room) in
    subst (λ (all : List Path). length all
    + length (missing all (changed (shape_path all c.args.shape) c.args.slot c.args.rep)) ≤ paths_most)
    c.shapes-shapes.ensures room

pub returns-in-Err-clause-refused : goal.returns-in-Err-clause-refused
returns-in-Err-clause-refused c =
    let shapes = c.shapes-shapes.result.now in
    subst (λ (all : List Path). IfErr c.room_for-in-Err.result
    (LacksPathsFor all all (changed (shape_path all c.args.shape) c.args.slot c.args.rep))) c.shapes-shapes.ensures
    (IfErr-weaker c.room_for-in-Err.result _ _
    (λ full refuses. refuses (changed (shape_path shapes c.args.shape) c.args.slot c.args.rep)
    (sym c.missing_change.ensures)) c.room_for-in-Err.ensures.full)
