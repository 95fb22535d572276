-- Each pair that was looked at holds nothing, or has a marked key.
use Rattle.std.proofs.Common.{List}
use Rattle.heap_model.specs.Kinds.{Pair}
use Rattle.write_barrier.specs.MutatorState.{heap_of}
use Rattle.weak_pairs.specs.Pairs.{HasPairsAt}
use Rattle.ephemeron_clear.specs.Marked.{AreMarkedBetween}
use Rattle.ephemeron_clear.proofs.search.last_unmarked.Given as goal

abbrev pub invariant-loop-place : goal.invariant-loop-place
invariant-loop-place l =
    (pairs : List Pair) → HasPairsAt (heap_of l.main) l.map pairs
    → AreMarkedBetween l.marked.addresses pairs l.place l.below
