-- The search has come to an object of the chain, and none before it was the one that is sought.
use Rattle.shape_change.proofs.RingSearch.{Seeks}
use Rattle.shape_change.proofs.prototypes.would_ring.Given as goal

abbrev pub invariant-loop-turn : goal.invariant-loop-turn
invariant-loop-turn l = Seeks l.main l.object l.target l.at l._turn
