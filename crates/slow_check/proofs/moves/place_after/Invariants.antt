use Rattle.std.proofs.Common.{◌≡◌, drop}
use Rattle.slow_check.specs.Moves.{to_of}
use Rattle.slow_check.proofs.moves.place_after.Given as goal

abbrev pub invariant-loop-one : goal.invariant-loop-one
invariant-loop-one l = to_of (drop l.one-index l.moves) l.at ≡ to_of l.moves l.at
