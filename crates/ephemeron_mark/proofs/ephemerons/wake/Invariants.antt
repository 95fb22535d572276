-- The values of the pairs that wait for the key are marked, from the last one back.
use Rattle.std.proofs.Common.{◌≡◌, ℕ, suc, Some, slice_get}
use Rattle.write_barrier.specs.MutatorState.{heap_of}
use Rattle.ephemeron_mark.specs.Progress.{HasGrown}
use Rattle.ephemeron_mark.proofs.WaitingKeys.{AreWoken}
use Rattle.ephemeron_mark.proofs.ephemerons.wake.Given as goal

abbrev pub invariant-loop-left : goal.invariant-loop-left
invariant-loop-left l = record {
  grown : HasGrown l.main l.initial.cells l.cells;
  found : (place : ℕ) → l.left ≡ suc place → slice_get l.waiting.keys place ≡ Some l.key;
  woken : AreWoken (heap_of l.main) l.waiting l.key l.cells l.left;
}

abbrev pub decreases-loop-left : goal.decreases-loop-left
decreases-loop-left l = l.left
