use Rattle.heap_model.specs.Images.{image_heap}
use Rattle.heap_check.specs.RegionRows.{IsZeroBetween}
use Rattle.heap_check.proofs.rows.flaw_of_blank.Given as goal

abbrev pub invariant-loop-at : goal.invariant-loop-at
invariant-loop-at l = IsZeroBetween (image_heap l.image) l.from l.at
