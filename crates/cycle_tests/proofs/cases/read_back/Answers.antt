-- The heap is ready once the cycle is dropped.
use Rattle.cycle_tests.proofs.Ready.{dropped_ready}
use Rattle.cycle_tests.proofs.cases.read_back.Goals as goal

pub loop-number-init : goal.loop-number-init
loop-number-init g c = dropped_ready c.requires.ready c.drop_cycle.ensures.dropped c.drop_cycle.ensures.shows
