use Rattle.std.proofs.Common.{◌≡◌, ℕ, ◌<◌, Some, slice_get}
use Rattle.heap_model.specs.Images.{image_heap}
use Rattle.heap_model.specs.Kinds.{Pair}
use Rattle.image_walk.specs.TablePairs.{table_pairs}
use Rattle.slow_check.specs.KeyPairs.{IsKnownPair}
use Rattle.slow_check.proofs.entries.are_known.Given as goal

abbrev pub invariant-loop-at : goal.invariant-loop-at
invariant-loop-at l =
    (at : ℕ) → at < l.at → (pair : Pair) → slice_get (table_pairs (image_heap l.image) l.table) at ≡ Some pair
    → IsKnownPair (image_heap l.image) l.marks l.entries pair
