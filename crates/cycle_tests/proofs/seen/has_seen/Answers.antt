-- A seat that was lent and taken back leaves the heap ready.
use Rattle.std.proofs.Common.{sym, ap, subst, ◌∙◌}
use Rattle.write_barrier.specs.MutatorState.{Mutator}
use Rattle.write_barrier.specs.Seats.{seat_back}
use Rattle.cycle_tests.specs.Ready.{IsReady}
use Rattle.cycle_tests.proofs.Ready.{looked_ready}
use Rattle.cycle_tests.proofs.seen.has_seen.Goals as goal

pub returns-clause-ready : goal.returns-clause-ready
returns-clause-ready g c = λ objects ready.
    subst (λ (one : Mutator). IsReady one objects)
    (sym (c.take_back.ensures.back
    ∙ ap (λ (one : Mutator). record one { seat = seat_back one.seat }) c.lend-seat.ensures.lent))
    (looked_ready ready)
