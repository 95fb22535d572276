-- The cells before the next one are visited, and the maps among them are listed.
use Rattle.std.proofs.Common.{◌≤◌, ◌-◌, length, vec_capacity}
use Rattle.write_barrier.specs.MutatorState.{heap_of}
use Rattle.ephemeron_mark.specs.Progress.{HasMore, AreWaiting, AreVisited, AreMapsAmong}
use Rattle.ephemeron_mark.proofs.visits.visit_all.Given as goal

abbrev pub invariant-loop-next : goal.invariant-loop-next
invariant-loop-next l = record {
  more : HasMore l.main l.initial.cells l.cells;
  waits : AreWaiting (heap_of l.main) l.cells l.waiting;
  visited : AreVisited (heap_of l.main) l.cells l.waiting l.next;
  maps : AreMapsAmong (heap_of l.main) l.cells l.maps.items l.next;
  within : l.next ≤ length l.cells.addresses;
  room : vec_capacity l.initial.maps ≤ vec_capacity l.maps;
}

abbrev pub decreases-loop-next : goal.decreases-loop-next
decreases-loop-next l = l.cells.bound - l.next
