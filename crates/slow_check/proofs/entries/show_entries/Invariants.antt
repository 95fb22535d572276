use Rattle.std.proofs.Common.{◌≡◌, ℕ, ◌<◌, Some, slice_get}
use Rattle.heap_model.specs.Types.{Entry}
use Rattle.heap_model.specs.Images.{image_heap}
use Rattle.image_walk.specs.TablePairs.{table_pairs}
use Rattle.slow_check.specs.KeyPairs.{ShowsIfReached}
use Rattle.slow_check.proofs.entries.show_entries.Given as goal

abbrev pub invariant-loop-entry : goal.invariant-loop-entry
invariant-loop-entry l =
    (at : ℕ) → at < l.entry-index → (entry : Entry) → slice_get l.entries at ≡ Some entry
    → ShowsIfReached (image_heap l.image) l.marks (table_pairs (image_heap l.image) l.table) entry
