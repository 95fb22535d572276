use Rattle.std.proofs.Common.{refl, arith}
use Rattle.shape_tree.specs.Shapes.{shape_path}
use Rattle.slow_check.proofs.EachItem.{same_items}
use Rattle.slow_check.proofs.paths.has_fields.Goals as goal

pub returns : goal.returns
returns c =
    let row = (shape_path c.args.shapes.now c.args.shape).fields in (
      λ done. same_items row c.args.fields.now (omega arith) (λ k below. c.loop-at.invariant k (omega arith)),
      λ same. refl,
    )
