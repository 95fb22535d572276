use Rattle.std.proofs.Common.{refl, arith}
use Rattle.slow_check.proofs.EachItem.{same_items}
use Rattle.slow_check.proofs.paths.has_same_paths.Goals as goal

pub returns : goal.returns
returns c = (
  λ done. same_items c.args.shapes.now c.args.others.now (omega arith) (λ k below. c.loop-at.invariant k (omega arith)),
  λ same. refl,
)
