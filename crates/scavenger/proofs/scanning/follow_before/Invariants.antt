-- The slots of the copy before an offset are done.
use Rattle.std.proofs.Common.{◌≡◌, ℕ, ◌+◌, Bool, List}
use Rattle.std.specs.Vec.{vec_capacity}
use Rattle.page_space.specs.Extents.{eden_start}
use Rattle.write_barrier.specs.MutatorState.{Mutator}
use Rattle.scavenger.specs.Starts.{SegmentCopies}
use Rattle.scavenger.specs.Walking.{AreSpaces, HasGrown, IsScanned, at_copy}
use Rattle.scavenger.proofs.scanning.follow_before.Given as goal

abbrev pub invariant-loop-offset : goal.invariant-loop-offset
invariant-loop-offset l = record {
  scanned : (start : Mutator) (handed : List SegmentCopies) (all : Bool) (end : ℕ)
      → AreSpaces l.fn.main.seat.space l.fn.main.young.half all l.spaces
      → IsScanned start handed l.fn.main all l.fn.worker.progress l.fn.worker.list.items l.cell
      (at_copy end (eden_start l.fn.main.seat.space) l.cell.at (l.cell.at + l.cell.size))
      → IsScanned start handed l.main all l.worker.progress l.worker.list.items l.cell
      (at_copy end (eden_start l.fn.main.seat.space) (l.cell.at + l.offset) (l.cell.at + l.cell.size));
  grows : HasGrown l.fn.worker.progress l.worker.progress l.fn.worker.list.items l.worker.list.items;
  capacity : vec_capacity l.worker.list ≡ vec_capacity l.fn.worker.list;
}
