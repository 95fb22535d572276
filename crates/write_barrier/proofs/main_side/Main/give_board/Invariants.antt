-- Nothing has changed.
use Rattle.std.proofs.Common.{◌≡◌}
use Rattle.write_barrier.proofs.main_side.Main.give_board.Given as goal

abbrev pub invariant-loop-place : goal.invariant-loop-place
invariant-loop-place l = record { same : l.self ≡ l.fn.self }
