use Rattle.heap_model.specs.Images.{image_heap}
use Rattle.heap_check.proofs.PairFlaws.{HeldBefore}
use Rattle.heap_check.proofs.entries.flaw_of_pairs.Given as goal

abbrev pub invariant-loop-place : goal.invariant-loop-place
invariant-loop-place l = HeldBefore (image_heap l.image) l.table l.place
