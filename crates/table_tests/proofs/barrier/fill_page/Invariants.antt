-- The seat stays bare.
use Rattle.std.proofs.Common.{◌≡◌}
use Rattle.table_tests.specs.BareSeats.{IsBareSeat}
use Rattle.table_tests.proofs.barrier.fill_page.Given as goal

abbrev pub invariant-loop-a : goal.invariant-loop-a
invariant-loop-a l = record { bare : IsBareSeat l.seat; space : l.seat.space ≡ l.initial.seat.space }
