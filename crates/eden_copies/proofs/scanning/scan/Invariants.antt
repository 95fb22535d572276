-- The slots of the copies before the next one were followed.
use Rattle.std.proofs.Common.{◌-◌, ◌≤◌, length}
use Rattle.eden_copies.specs.Eden.{Deal, MayCopy}
use Rattle.eden_copies.specs.Copied.{GoesOn, IsCopying}
use Rattle.eden_copies.proofs.CopySteps.{front_at}
use Rattle.eden_copies.proofs.scanning.scan.Given as goal

abbrev pub invariant-copies : goal.invariant-copies
invariant-copies g l = record {
  copying : (deal : Deal) → MayCopy l.words deal → IsCopying l.words deal l.fn.worker.start l.fn.worker l.fn.seat
      → IsCopying l.words deal (front_at l.words l.worker l.next) l.worker l.seat;
  goes : GoesOn l.fn.worker l.worker l.fn.seat l.seat;
  counted : l.next ≤ length l.worker.copies;
}

abbrev pub decreases-copies : goal.decreases-copies
decreases-copies g l = l.fn.worker.most - l.next
