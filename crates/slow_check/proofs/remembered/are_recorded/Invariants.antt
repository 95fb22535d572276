use Rattle.heap_model.specs.Images.{image_heap}
use Rattle.slow_check.specs.Recorded.{AreRecordedTo}
use Rattle.slow_check.proofs.remembered.are_recorded.Given as goal

abbrev pub invariant-loop-at : goal.invariant-loop-at
invariant-loop-at l = AreRecordedTo (image_heap l.image) l.slots l.at-counter
