-- What waits is on the lists, and nothing is owed; each turn leaves fewer cells white and on the lists.
use Rattle.mark_barrier.specs.Paid.{IsPaid, Scans, left_to_do}
use Rattle.mark_barrier.proofs.scanning.blacken_listed.Given as goal

abbrev pub invariant-loop-at : goal.invariant-loop-at
invariant-loop-at l = record { paid : IsPaid l.seat l.grey; scans : Scans l.initial.seat l.seat }

abbrev pub decreases-loop-at : goal.decreases-loop-at
decreases-loop-at l = left_to_do l.seat l.grey
