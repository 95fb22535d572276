-- The cycle may go on as it was.
use Rattle.table_tests.proofs.WaitingMains.{whole_main}
use Rattle.table_tests.proofs.waiting_mains.pause.Goals as goal

pub returns : goal.returns
returns c = record {
  whole = whole_main c.args.main.now c.pause_cycle.new.self c.pause_cycle.ensures.paused c.requires.marking;
}
