-- So many places of the board have no cell.
use Rattle.std.proofs.Common.{◌≡◌, ◌<◌, ℕ, length, slice_index}
use Rattle.page_space.specs.Extents.{board_words}
use Rattle.heap_table.specs.Overviews.{cycle_in, overview}
use Rattle.mark_barrier.specs.Paid.{IsPaid, StepsTo}
use Rattle.mark_barrier.proofs.grey_cells.GreyCells.take_all.Given as goal

abbrev pub invariant-loop-place : goal.invariant-loop-place
invariant-loop-place l = record {
  paid : IsPaid l.seat l.self;
  steps : StepsTo l.fn.seat l.seat l.fn.seat.table (cycle_in l.fn.seat);
  long : length (overview l.seat).board ≡ board_words;
  none : (k : ℕ) → k < l.place → slice_index (overview l.seat).board k ≡ 0;
}
