use Rattle.heap_model.specs.Images.{image_heap}
use Rattle.heap_check.proofs.SizeFlaws.{layouts_first}
use Rattle.heap_check.proofs.sizes.flaw_of_layouts.Goals as goal
use Rattle.std.proofs.Common.{arith}

pub returns-in-Some : goal.returns-in-Some
returns-in-Some c =
    layouts_first (image_heap c.args.image.now) c.loop-shape.shape c.in-Some.flaw (omega arith) c.loop-shape.invariant
    c.in-Some.ensures
