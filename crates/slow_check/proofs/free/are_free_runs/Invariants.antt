use Rattle.std.proofs.Common.{◌≡◌, ℕ, ◌<◌, List, Some, slice_get, map}
use Rattle.heap_model.specs.Types.{Run}
use Rattle.heap_model.specs.Images.{image_heap}
use Rattle.slow_check.specs.FreeCells.{AreFreeCells}
use Rattle.slow_check.proofs.free.are_free_runs.Given as goal

abbrev pub invariant-loop-row : goal.invariant-loop-row
invariant-loop-row l =
    (k : ℕ) → k < l.row-index → (row : List Run) → slice_get (map (λ one. one.items) l.rows) k ≡ Some row
    → AreFreeCells (image_heap l.image) row
