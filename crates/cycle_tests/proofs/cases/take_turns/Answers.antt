-- The heap is ready after each look.
use Rattle.cycle_tests.proofs.cases.take_turns.Goals as goal

pub loop-number-preserved : goal.loop-number-preserved
loop-number-preserved g c = record {
  ready = c.has_seen.ensures.ready c.carry_out.new.objects c.carry_out.ensures.ready;
  mark = c.has_seen.ensures.mark;
}
