-- The fields from the changed one on lead to the changed path.
use Rattle.std.proofs.Common.{◌≡◌, ◌+◌, ◌-◌, ◌∙◌, ◌∷◌, ap, sym, subst, arith, length, drop, length-take, length-drop}
use Rattle.object_graph.specs.Paths.{missing}
use Rattle.object_graph.specs.Invariants.{IsPath}
use Rattle.shape_tree.specs.Shapes.{shape_path, changed}
use Rattle.shape_tree.proofs.GrownLists.{length-missing}
use Rattle.shape_tree.proofs.ChangedPaths.{IsPath-changed, fields_behind, changed_field}
use Rattle.shape_tree.proofs.ChangedPaths.{extended-changed_at, extended-changed_next}
use Rattle.shape_tree.proofs.tree.ShapeTree.missing_change.Goals as goal

pub returns-in_default : goal.returns-in_default
returns-in_default c =
    let paths = c.args.self.now in
    let path = shape_path paths c.args.shape in
    let slice = c.fields_of-fields.result.now in
    let at = c.args.at in
    let behind = drop (at + 1) slice in
    let good = c.paths_fit.ensures.good in
    let whole = extended-changed_at path (shape_path paths c.ancestor.result) slice at c.args.rep c.requires.there
    c.ancestor.ensures.of_path c.fields_of-fields.ensures.fields in
    let lacking : length (missing paths (changed path at c.args.rep))
    ≡ length (changed_field slice at c.args.rep ∷ fields_behind slice at) =
    length-missing paths (changed path at c.args.rep) c.ancestor.result
    (changed_field slice at c.args.rep ∷ fields_behind slice at) good.are c.ancestor.ensures.is_shape whole
    c.in_default.ensures in
    let long = ap length c.fields_of-fields.ensures.fields in
    omega (
      arith,
      lacking,
      long,
      c.requires.there,
      length-take (length slice - (at + 1)) behind,
      length-drop (at + 1) slice,
    )

pub missing_along-requires-clause-is : goal.missing_along-requires-clause-is
missing_along-requires-clause-is c =
    let paths = c.args.self.now in
    let path = shape_path paths c.args.shape in
    subst IsPath
    (sym (extended-changed_next path (shape_path paths c.ancestor.result) (shape_path paths c.in-Some.next)
    c.fields_of-fields.result.now c.args.at c.args.rep c.requires.there c.ancestor.ensures.of_path
    c.fields_of-fields.ensures.fields c.in-Some.ensures.of_path))
    (IsPath-changed path c.args.at c.args.rep c.fields_of-fields.ensures.is)

pub returns : goal.returns
returns c =
    let paths = c.args.self.now in
    c.missing_along.ensures
    ∙ ap (λ path. length (missing paths path))
    (extended-changed_next (shape_path paths c.args.shape) (shape_path paths c.ancestor.result)
    (shape_path paths c.in-Some.next) c.fields_of-fields.result.now c.args.at c.args.rep c.requires.there
    c.ancestor.ensures.of_path c.fields_of-fields.ensures.fields c.in-Some.ensures.of_path)
