-- The fields before the changed one make the prefix, and it and the others lead on.
use Rattle.std.proofs.Common.{◌≡◌, ◌∙◌, ap, drop}
use Rattle.std.proofs.lemmas.List.{take_rest}
use Rattle.object_graph.specs.declared.path.Path.{Path}
use Rattle.object_graph.specs.Paths.{prefix_of}
use Rattle.shape_tree.specs.Shapes.{shape_path, changed_fields}
use Rattle.shape_tree.specs.Growth.{extended}
use Rattle.shape_tree.proofs.ChangedPaths.{IsPath-changed, extended-changed}
use Rattle.shape_tree.proofs.tree.ShapeTree.way_to_changed.Goals as goal

pub returns : goal.returns
returns c =
    let path = shape_path c.args.self.now c.args.shape in
    let at = c.args.at in
    let kept : c.of-tail.result ≡ drop at path.fields =
    c.of-tail.ensures ∙ take_rest c.fields_of.result.now at ∙ ap (drop at) c.fields_of.ensures.fields in
    let tail : c.set_rep.new.self ≡ changed_fields (drop at path.fields) 0 c.args.rep =
    c.set_rep.ensures ∙ ap (λ fields. changed_fields fields 0 c.args.rep) kept in
    record {
      at = c.ancestor-from.ensures.is_shape;
      same = ap (λ (p : Path). extended p c.set_rep.new.self) c.ancestor-from.ensures.of_path
          ∙ ap (extended (prefix_of path at)) tail
          ∙ extended-changed path at c.args.rep c.requires.there;
      is = IsPath-changed path at c.args.rep c.fields_of.ensures.is;
    }
