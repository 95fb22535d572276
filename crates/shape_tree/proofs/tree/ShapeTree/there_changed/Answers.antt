-- The changed field leads on from the prefix before it, and then the fields behind it.
use Rattle.std.proofs.Common.{subst, IfSome}
use Rattle.shape_tree.specs.Shapes.{IsShapeOf, shape_path}
use Rattle.shape_tree.proofs.ChangedPaths.{extended-changed_next}
use Rattle.shape_tree.proofs.tree.ShapeTree.there_changed.Goals as goal

pub returns : goal.returns
returns c =
    let paths = c.args.self.now in
    let led = c.in_ok-next.ensures in
    subst (λ path. IfSome c.there_along.result (IsShapeOf paths path))
    (extended-changed_next (shape_path paths c.args.shape) (shape_path paths c.ancestor.result)
    (shape_path paths c.in_ok-next.next) c.fields_of-fields.result.now c.args.at c.args.rep c.requires.there
    c.ancestor.ensures.of_path c.fields_of-fields.ensures.fields led.of_path)
    c.there_along.ensures
