-- So many layout words are put.
use Rattle.std.proofs.Common.{◌≡◌}
use Rattle.heap_table.specs.Overviews.{overview}
use Rattle.table_tests.specs.BareSeats.{IsBareSeat}
use Rattle.table_tests.proofs.Filled.{filled_to}
use Rattle.table_tests.proofs.barrier.fill_shapes.Given as goal

abbrev pub invariant-loop-shape : goal.invariant-loop-shape
invariant-loop-shape l = record {
  bare : IsBareSeat l.seat;
  space : l.seat.space ≡ l.initial.seat.space;
  layouts : (overview l.seat).layouts ≡ filled_to l.shape l.layouts (overview l.initial.seat).layouts;
}
