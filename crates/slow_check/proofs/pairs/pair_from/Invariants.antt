use Rattle.std.proofs.Common.{◌≡◌, ℕ, ◌≤◌, ◌<◌, Some, slice_get}
use Rattle.heap_model.specs.Images.{image_heap}
use Rattle.heap_model.specs.Slots.{RefersToPlace}
use Rattle.heap_model.specs.Kinds.{Pair}
use Rattle.image_walk.specs.TablePairs.{table_pairs}
use Rattle.slow_check.proofs.pairs.pair_from.Given as goal

abbrev pub invariant-loop-at : goal.invariant-loop-at
invariant-loop-at l =
    (at : ℕ) (pair : Pair) → slice_get (table_pairs (image_heap l.image) l.table) at ≡ Some pair → l.from ≤ at
    → at < l.at → RefersToPlace (image_heap l.image) pair.key l.key → ⊥
