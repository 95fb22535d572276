-- The pairs before stand in the other table.
use Rattle.ephemeron_table.specs.Rehashing.{RehashesPairs}
use Rattle.ephemeron_table.proofs.growing.rehash.Given as goal

abbrev pub invariant-loop-at : goal.invariant-loop-at
invariant-loop-at l = RehashesPairs l.fn.main l.main l.from l.to l.at
