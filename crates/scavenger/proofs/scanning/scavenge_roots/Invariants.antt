-- The first root words of the variables before one are done.
use Rattle.std.proofs.Common.{◌≡◌, Bool, List}
use Rattle.std.specs.Vec.{vec_capacity}
use Rattle.page_space.specs.Extents.{roots_start}
use Rattle.handle_roots.specs.Roots.{root_at}
use Rattle.write_barrier.specs.MutatorState.{Mutator}
use Rattle.scavenger.specs.Starts.{SegmentCopies}
use Rattle.scavenger.specs.Walking.{AreSpaces, Scavenging, at_root}
use Rattle.scavenger.proofs.scanning.scavenge_roots.Given as goal

abbrev pub invariant-loop-variable : goal.invariant-loop-variable
invariant-loop-variable l = record {
  scavenging : (start : Mutator) (handed : List SegmentCopies) (all : Bool)
      → AreSpaces l.fn.main.seat.space l.fn.main.young.half all l.spaces
      → Scavenging start handed l.fn.main all l.fn.worker.progress l.fn.worker.list.items
      (at_root (roots_start l.fn.main.seat.space))
      → Scavenging start handed l.main all l.worker.progress l.worker.list.items
      (at_root (root_at start.seat.space l.variable));
  capacity : vec_capacity l.worker.list ≡ vec_capacity l.fn.worker.list;
}
