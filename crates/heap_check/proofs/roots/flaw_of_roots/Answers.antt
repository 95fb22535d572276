use Rattle.std.proofs.Common.{arith, below_more}
use Rattle.heap_model.specs.Images.{image_heap}
use Rattle.heap_check.proofs.RootFlaws.{roots_first}
use Rattle.heap_check.proofs.roots.flaw_of_roots.Goals as goal

pub loop-variable-preserved : goal.loop-variable-preserved
loop-variable-preserved c = below_more _ _ c.loop-variable.invariant c.in_default.ensures

pub returns-in-Some : goal.returns-in-Some
returns-in-Some c =
    roots_first (image_heap c.args.image.now) c.loop-variable.variable c.in-Some.flaw (omega arith)
    c.loop-variable.invariant c.in-Some.ensures
