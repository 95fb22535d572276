use Rattle.std.proofs.Common.{ℕ, ◌<◌}
use Rattle.heap_model.specs.Images.{image_heap}
use Rattle.heap_model.specs.Wholeness.{HasRoot}
use Rattle.heap_check.proofs.roots.flaw_of_roots.Given as goal

abbrev pub invariant-loop-variable : goal.invariant-loop-variable
invariant-loop-variable l = (variable : ℕ) → variable < l.variable → HasRoot (image_heap l.image) variable
