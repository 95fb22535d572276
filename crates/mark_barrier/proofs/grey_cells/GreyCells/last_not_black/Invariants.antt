-- Those that were listed last are passed over.
use Rattle.std.proofs.Common.{◌≡◌, length}
use Rattle.mark_barrier.proofs.Passing.{Passes}
use Rattle.mark_barrier.proofs.grey_cells.GreyCells.last_not_black.Given as goal

abbrev pub invariant-loop-at : goal.invariant-loop-at
invariant-loop-at l = record {
  same : l.seat ≡ l.fn.seat;
  passes : Passes l.fn.seat l.fn.self l.self;
}

abbrev pub decreases-loop-at : goal.decreases-loop-at
decreases-loop-at l = length l.self.list.addresses
