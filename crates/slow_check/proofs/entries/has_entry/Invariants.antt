use Rattle.std.proofs.Common.{◌≡◌, ℕ, ◌<◌, Some, slice_get}
use Rattle.heap_model.specs.Types.{Entry}
use Rattle.slow_check.proofs.entries.has_entry.Given as goal

abbrev pub invariant-loop-entry : goal.invariant-loop-entry
invariant-loop-entry l =
    (at : ℕ) (entry : Entry) → slice_get l.entries at ≡ Some entry → at < l.entry-index → entry.key ≡ l.key → ⊥
