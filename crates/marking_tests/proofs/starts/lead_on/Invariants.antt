-- The cells before a place lead to listed ones.
use Rattle.std.proofs.Common.{◌≡◌, ℕ, ◌<◌, Some, slice_get, Contains}
use Rattle.heap_model.specs.Slots.{IsWeakCellAt}
use Rattle.live_cells.specs.Live.{HasSlotTo}
use Rattle.write_barrier.specs.MutatorState.{heap_of}
use Rattle.marking_tests.proofs.starts.lead_on.Given as goal

abbrev pub invariant-loop-place : goal.invariant-loop-place
invariant-loop-place l =
    (place from to : ℕ) → place < l.place → slice_get l.seen place ≡ Some from
    → (IsWeakCellAt (heap_of l.main) from → ⊥) → HasSlotTo (heap_of l.main) from to → Contains l.cells.addresses to
