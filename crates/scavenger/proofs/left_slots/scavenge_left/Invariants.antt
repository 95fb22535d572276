-- The slots before a number are done.
use Rattle.std.proofs.Common.{◌≡◌, Bool, List, drop}
use Rattle.std.specs.Vec.{vec_capacity}
use Rattle.write_barrier.specs.MutatorState.{Mutator}
use Rattle.scavenger.specs.Starts.{SegmentCopies}
use Rattle.scavenger.specs.Walking.{AreSpaces}
use Rattle.scavenger.specs.Handing.{HasLeft}
use Rattle.scavenger.proofs.left_slots.scavenge_left.Given as goal

abbrev pub invariant-loop-number : goal.invariant-loop-number
invariant-loop-number l = record {
  scavenging : (start : Mutator) (handed : List SegmentCopies) (all : Bool)
      → AreSpaces l.fn.main.seat.space l.fn.main.young.half all l.spaces
      → HasLeft start handed l.fn.main all l.fn.worker.progress l.fn.worker.list.items l.left l.left
      → HasLeft start handed l.main all l.worker.progress l.worker.list.items l.left (drop l.number l.left);
  capacity : vec_capacity l.worker.list ≡ vec_capacity l.fn.worker.list;
}
