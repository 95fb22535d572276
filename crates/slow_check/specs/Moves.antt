-- Where what stood at addresses stands after a move.
use Rattle.std.specs.Prelude.{ℕ, List, [], ◌∷◌, Option, Some, None, nat_eq, if◌then◌else◌}
use Rattle.slow_check.specs.declared.moves.Move.{Move}

-- where what stood at the address stands: the first of these moves from there tells; without one it did not stay
abbrev pub to_of : List Move → ℕ → Option ℕ
to_of [] at = None
to_of (first ∷ rest) at = if nat_eq first.from at then Some first.to else to_of rest at
