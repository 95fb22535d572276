-- A heap that was opened with a shared table is ready.
use Rattle.cycle_tests.proofs.Ready.{fresh_shared, opened_ready}
use Rattle.cycle_tests.proofs.cases.opened.Goals as goal

pub returns-clause-ready : goal.returns-clause-ready
returns-clause-ready g c =
    opened_ready c.in_ok-seat.seat c.open-2.result
    (fresh_shared c.new-regions.result c.in_ok-seat.seat c.in_ok-seat.ensures.opened) c.open-2.ensures.opened
    c.open-2.ensures.table
