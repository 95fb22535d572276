use Rattle.heap_model.specs.Images.{image_heap}
use Rattle.slow_check.specs.DeadCells.{HasDead}
use Rattle.slow_check.proofs.DeadStretches.{IsStretch}
use Rattle.slow_check.proofs.fitting.has_dead.Given as goal

abbrev pub invariant-loop-at : goal.invariant-loop-at
invariant-loop-at l = record {
  stretch : IsStretch (image_heap l.image) l.start l.first l.at;
  none : HasDead (image_heap l.image) l.start l.at l.n → ⊥;
}
