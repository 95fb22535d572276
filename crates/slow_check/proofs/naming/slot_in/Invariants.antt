use Rattle.std.proofs.Common.{◌-◌}
use Rattle.heap_model.specs.Images.{image_heap}
use Rattle.slow_check.proofs.NamingSlots.{NoneBefore}
use Rattle.slow_check.proofs.naming.slot_in.Given as goal

abbrev pub invariant-loop-offset : goal.invariant-loop-offset
invariant-loop-offset l = NoneBefore (image_heap l.image) l.cell l.named l.from

abbrev pub decreases-loop-offset : goal.decreases-loop-offset
decreases-loop-offset l = l.cell.size - l.from
