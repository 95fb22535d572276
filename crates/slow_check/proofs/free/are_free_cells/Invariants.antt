use Rattle.std.proofs.Common.{◌≡◌, ℕ, ◌<◌, Some, slice_get}
use Rattle.heap_model.specs.Types.{Run}
use Rattle.heap_model.specs.Images.{image_heap}
use Rattle.heap_model.specs.Collectable.{IsFreeCell}
use Rattle.slow_check.proofs.free.are_free_cells.Given as goal

abbrev pub invariant-loop-run : goal.invariant-loop-run
invariant-loop-run l =
    (k : ℕ) → k < l.run-index → (run : Run) → slice_get l.row k ≡ Some run → IsFreeCell (image_heap l.image) run
