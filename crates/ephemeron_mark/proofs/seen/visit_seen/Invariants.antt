-- The cells before the next one are visited, and the maps among them are listed.
use Rattle.std.proofs.Common.{◌≤◌, vec_capacity}
use Rattle.write_barrier.specs.MutatorState.{heap_of}
use Rattle.ephemeron_mark.specs.Progress.{HasGrown, AreWaiting, WaitsMore, AreVisited, AreMapsAmong}
use Rattle.ephemeron_mark.proofs.seen.visit_seen.Given as goal

abbrev pub invariant-loop-next : goal.invariant-loop-next
invariant-loop-next l = record {
  grown : HasGrown l.main l.initial.cells l.cells;
  waits : AreWaiting (heap_of l.main) l.cells l.waiting;
  more : WaitsMore l.initial.cells l.initial.waiting l.waiting;
  visited : AreVisited (heap_of l.main) l.cells l.waiting l.next;
  maps : AreMapsAmong (heap_of l.main) l.cells l.maps.items l.next;
  room : vec_capacity l.initial.maps ≤ vec_capacity l.maps;
}
