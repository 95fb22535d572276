use Rattle.std.proofs.Common.{refl, arith}
use Rattle.shape_tree.specs.Shapes.{shape_path}
use Rattle.slow_check.proofs.EachItem.{same_items}
use Rattle.slow_check.proofs.paths.has_same_fields.Goals as goal

pub returns : goal.returns
returns c = (
  λ done. same_items (shape_path c.args.shapes.now c.args.shape).fields
      (shape_path c.args.others.now c.args.shape).fields (omega arith)
      (λ k below. c.loop-at.invariant k (omega arith)),
  λ same. refl,
)
