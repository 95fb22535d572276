-- The fields before the one that is taken out make the prefix, and those behind it lead on.
use Rattle.std.proofs.Common.{◌≡◌, ◌∙◌, suc, ◌+◌, ap, drop, add-one}
use Rattle.std.proofs.lemmas.List.{take_rest}
use Rattle.object_graph.specs.declared.path.Path.{Path}
use Rattle.object_graph.specs.Paths.{prefix_of}
use Rattle.shape_tree.specs.Shapes.{shape_path}
use Rattle.shape_tree.specs.Growth.{extended}
use Rattle.shape_tree.proofs.ChangedPaths.{IsPath-without}
use Rattle.shape_tree.proofs.tree.ShapeTree.way_without.Goals as goal

pub returns : goal.returns
returns c =
    let path = shape_path c.args.self.now c.args.shape in
    let at = c.args.at in
    let tail : c.of-tail.result ≡ drop (suc at) path.fields =
    c.of-tail.ensures ∙ take_rest c.fields_of.result.now (at + 1) ∙ ap (drop (at + 1)) c.fields_of.ensures.fields
    ∙ ap (λ n. drop n path.fields) (add-one at) in
    record {
      at = c.ancestor-from.ensures.is_shape;
      same = ap (λ (p : Path). extended p c.of-tail.result) c.ancestor-from.ensures.of_path
          ∙ ap (extended (prefix_of path at)) tail;
      is = IsPath-without path at c.fields_of.ensures.is;
    }
