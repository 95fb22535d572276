-- The heap is ready after the first look.
use Rattle.cycle_tests.proofs.cases.go.Goals as goal

pub take_turns-requires-clause-ready : goal.take_turns-requires-clause-ready
take_turns-requires-clause-ready g c = c.has_seen.ensures.ready c.prepare.new.objects c.in_ok-begin.ensures.ready
