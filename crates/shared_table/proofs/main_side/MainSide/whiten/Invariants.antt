-- So many cells are white, and nothing else has changed.
use Rattle.std.proofs.Common.{◌≡◌}
use Rattle.shared_table.proofs.Whitened.{whitened_to}
use Rattle.shared_table.proofs.main_side.MainSide.whiten.Given as goal

abbrev pub invariant-loop-a : goal.invariant-loop-a
invariant-loop-a l = l.self ≡ whitened_to l.a l.fn.self
