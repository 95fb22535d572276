use Rattle.std.proofs.Common.{ℕ, ◌<◌}
use Rattle.heap_model.specs.Images.{image_heap}
use Rattle.heap_model.specs.Showing.{ShowsBinding}
use Rattle.slow_check.proofs.bindings.show_bindings.Given as goal

abbrev pub invariant-loop-variable : goal.invariant-loop-variable
invariant-loop-variable l =
    (variable : ℕ) → variable < l.variable → ShowsBinding (image_heap l.image) l.ideal.graph variable
