-- The fields behind the one that is taken out lead on from the prefix before it.
use Rattle.std.proofs.Common.{◌∙◌, ap, sym, subst, length}
use Rattle.object_graph.specs.Paths.{missing}
use Rattle.object_graph.specs.Invariants.{IsPath}
use Rattle.shape_tree.specs.Shapes.{shape_path}
use Rattle.shape_tree.proofs.ChangedPaths.{IsPath-without, extended-without}
use Rattle.shape_tree.proofs.tree.ShapeTree.missing_without.Goals as goal

pub missing_along-requires-clause-is : goal.missing_along-requires-clause-is
missing_along-requires-clause-is c =
    let paths = c.args.self.now in
    let path = shape_path paths c.args.shape in
    subst IsPath
    (sym (extended-without path (shape_path paths c.ancestor.result) c.fields_of-fields.result.now c.args.at
    c.ancestor.ensures.of_path c.fields_of-fields.ensures.fields))
    (IsPath-without path c.args.at c.fields_of-fields.ensures.is)

pub returns : goal.returns
returns c =
    let paths = c.args.self.now in
    c.missing_along.ensures
    ∙ ap (λ path. length (missing paths path))
    (extended-without (shape_path paths c.args.shape) (shape_path paths c.ancestor.result) c.fields_of-fields.result.now
    c.args.at c.ancestor.ensures.of_path c.fields_of-fields.ensures.fields)
