-- The values of the pairs before one are marked, or they wait.
use Rattle.std.proofs.Common.{ℕ, ◌<◌}
use Rattle.write_barrier.specs.MutatorState.{heap_of}
use Rattle.ephemeron_mark.specs.Progress.{HasGrown, AreWaiting, WaitsMore, IsMarkedOrWaits}
use Rattle.ephemeron_mark.proofs.PairSlots.{IsPairAt}
use Rattle.ephemeron_mark.proofs.ephemerons.mark_pairs.Given as goal

abbrev pub invariant-loop-pair : goal.invariant-loop-pair
invariant-loop-pair l = record {
  grown : HasGrown l.main l.initial.cells l.cells;
  waits : AreWaiting (heap_of l.main) l.cells l.waiting;
  more : WaitsMore l.initial.cells l.initial.waiting l.waiting;
  pairs : (place key value : ℕ) → place < l.pair → IsPairAt (heap_of l.main) l.cell place key value
      → IsMarkedOrWaits (heap_of l.main) l.cells l.waiting key value;
}
