use Rattle.std.proofs.Common.{◌≡◌, ◌+◌, sum, take}
use Rattle.byte_ends.specs.Sure.{wrapped}
use Rattle.byte_ends.proofs.sure.total_with.Given as goal

abbrev pub invariant-loop-byte : goal.invariant-loop-byte
invariant-loop-byte l = l.total ≡ wrapped (l.fn.total + sum (take l.byte-index l.piece))
