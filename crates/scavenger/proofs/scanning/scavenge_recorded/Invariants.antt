-- The recorded slots before an address are done.
use Rattle.std.proofs.Common.{◌≡◌, ℕ, ◌-◌, Bool, List}
use Rattle.std.specs.Vec.{vec_capacity}
use Rattle.page_space.specs.Extents.{eden_start}
use Rattle.write_barrier.specs.MutatorState.{Mutator}
use Rattle.scavenger.specs.Starts.{SegmentCopies}
use Rattle.scavenger.specs.Walking.{AreSpaces, Scavenging, at_recorded}
use Rattle.scavenger.proofs.scanning.scavenge_recorded.Given as goal

abbrev pub invariant-recorded : goal.invariant-recorded
invariant-recorded l = record {
  scavenging : (start : Mutator) (handed : List SegmentCopies) (all : Bool) (end : ℕ)
      → AreSpaces l.fn.main.seat.space l.fn.main.young.half all l.spaces
      → Scavenging start handed l.fn.main all l.fn.worker.progress l.fn.worker.list.items (at_recorded end 0)
      → Scavenging start handed l.main all l.worker.progress l.worker.list.items (at_recorded end l.from);
  capacity : vec_capacity l.worker.list ≡ vec_capacity l.fn.worker.list;
}

abbrev pub decreases-recorded : goal.decreases-recorded
decreases-recorded l = eden_start l.fn.main.seat.space - l.from
