-- The first words of the segments below one are 0.
use Rattle.std.proofs.Common.{◌≡◌}
use Rattle.write_barrier.specs.Seats.{heap_words}
use Rattle.scavenger.specs.Filling.{ChangesWords}
use Rattle.scavenger.proofs.EmptiedSegments.{EmptiesBelow}
use Rattle.scavenger.proofs.emptying.empty_segments.Given as goal

abbrev pub invariant-loop-worker : goal.invariant-loop-worker
invariant-loop-worker l = record {
  changes : ChangesWords l.fn.main l.main;
  free : l.main.free ≡ l.fn.main.free;
  recorded : l.main.recorded ≡ l.fn.main.recorded;
  empties : EmptiesBelow l.fn.main.seat.space l.half l.worker (heap_words l.fn.main.seat) (heap_words l.main.seat);
}
