-- The slots of copies that are not on the list are done.
use Rattle.std.proofs.Common.{◌≡◌, ℕ, ◌+◌, ◌-◌, Bool, List, length}
use Rattle.std.specs.Vec.{vec_capacity}
use Rattle.page_space.specs.Extents.{eden_start}
use Rattle.write_barrier.specs.MutatorState.{Mutator}
use Rattle.scavenger.specs.Starts.{SegmentCopies}
use Rattle.scavenger.specs.Walking.{AreSpaces, Scavenging, at_copy}
use Rattle.scavenger.proofs.scanning.scavenge_copies.Given as goal

abbrev pub invariant-copies : goal.invariant-copies
invariant-copies l = record {
  scavenging : (start : Mutator) (handed : List SegmentCopies) (all : Bool) (end : ℕ)
      → AreSpaces l.fn.main.seat.space l.fn.main.young.half all l.spaces
      → Scavenging start handed l.fn.main all l.fn.worker.progress l.fn.worker.list.items
      (at_copy end (eden_start l.fn.main.seat.space) 0 0)
      → Scavenging start handed l.main all l.worker.progress l.worker.list.items
      (at_copy end (eden_start l.fn.main.seat.space) 0 0);
  capacity : vec_capacity l.worker.list ≡ vec_capacity l.fn.worker.list;
}

abbrev pub decreases-copies : goal.decreases-copies
decreases-copies l = (l.fn.main.seat.space.sizes.young - l.worker.progress.copied) + length l.worker.list.items
