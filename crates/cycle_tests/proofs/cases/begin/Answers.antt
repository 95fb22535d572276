-- The heap is ready in the cycle that opens.
use Rattle.std.proofs.Common.{sym}
use Rattle.cycle_tests.proofs.Ready.{cycle_ready}
use Rattle.cycle_tests.proofs.cases.begin.Goals as goal

pub open_cycle-requires-clause-shown : goal.open_cycle-requires-clause-shown
open_cycle-requires-clause-shown g c =
    let ready = c.in_ok-promote_all.ensures.ready in
    record { graph = ready.graph; shows = ready.shows; counted = sym ready.counted }

pub returns-clause-ready : goal.returns-clause-ready
returns-clause-ready g c =
    cycle_ready c.in_ok-promote_all.ensures.ready c.open_cycle.ensures.opens c.open_cycle.ensures.home
    c.open_cycle.ensures.out
