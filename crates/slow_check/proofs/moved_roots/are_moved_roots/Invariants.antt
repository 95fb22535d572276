use Rattle.std.proofs.Common.{ℕ, ◌<◌}
use Rattle.heap_model.specs.Images.{image_heap}
use Rattle.heap_moves.specs.Moved.{IsMovedRoot}
use Rattle.slow_check.specs.Moves.{to_of}
use Rattle.slow_check.proofs.moved_roots.are_moved_roots.Given as goal

abbrev pub invariant-loop-variable : goal.invariant-loop-variable
invariant-loop-variable l =
    (variable : ℕ) → variable < l.variable
    → IsMovedRoot (image_heap l.old) (image_heap l.new) (to_of l.moves) variable
