use Rattle.std.proofs.Common.{◌-◌, ◌≤◌}
use Rattle.remembered_set.specs.Bits.{flags_of}
use Rattle.remembered_set.specs.Flags.{AreClear}
use Rattle.remembered_set.proofs.bits.first_set.Given as goal

abbrev pub invariant-loop-at : goal.invariant-loop-at
invariant-loop-at l = record { clear : AreClear (flags_of l.bits) l.from l.at; behind : l.from ≤ l.at }

abbrev pub decreases-loop-at : goal.decreases-loop-at
decreases-loop-at l = l.to - l.at
