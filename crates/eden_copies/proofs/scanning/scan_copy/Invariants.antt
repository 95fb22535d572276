-- The slots of the copy before an offset were followed.
use Rattle.std.proofs.Common.{◌+◌}
use Rattle.eden_copies.specs.Eden.{Deal, MayCopy}
use Rattle.eden_copies.specs.Copied.{GoesOn, IsCopying}
use Rattle.eden_copies.proofs.scanning.scan_copy.Given as goal

abbrev pub invariant-loop-offset : goal.invariant-loop-offset
invariant-loop-offset g l = record {
  copying : (deal : Deal) → MayCopy l.words deal → IsCopying l.words deal l.home.to l.fn.worker l.fn.seat
      → IsCopying l.words deal (l.home.to + l.offset) l.worker l.seat;
  goes : GoesOn l.fn.worker l.worker l.fn.seat l.seat;
}
