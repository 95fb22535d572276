-- The cells before a place are given.
use Rattle.std.proofs.Common.{◌≡◌, ℕ, ◌⊎◌, Contains, IsTrue}
use Rattle.write_barrier.specs.MutatorState.{heap_of}
use Rattle.ephemeron_mark.specs.Marked.{StandsInHeap}
use Rattle.marking_tests.proofs.starts.give_each.Given as goal

abbrev pub invariant-loop-place : goal.invariant-loop-place
invariant-loop-place l = record {
  stand : (at : ℕ) → Contains l.marking.cells at → StandsInHeap (heap_of l.main) at;
  seen : (at : ℕ) → Contains l.marking.seen at
      → Contains l.initial.marking.seen at ⊎ (IsTrue l.as_seen × Contains l.given at);
  bound : l.marking.bound ≡ l.initial.marking.bound;
}
