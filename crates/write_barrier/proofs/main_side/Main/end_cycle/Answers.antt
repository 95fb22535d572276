-- The cycle goes on as it was, and is closed.
use Rattle.std.proofs.Common.{ap, ◌∙◌}
use Rattle.heap_table.specs.Overviews.{unopened}
use Rattle.heap_table.specs.Phases.{Quiet}
use Rattle.write_barrier.specs.Cycles.{in_cycle}
use Rattle.write_barrier.specs.MutatorState.{Mutator}
use Rattle.write_barrier.proofs.ResumedCycles.{itself_resumes}
use Rattle.write_barrier.proofs.main_side.Main.end_cycle.Goals as goal

pub resume_cycle-requires-clause-chosen : goal.resume_cycle-requires-clause-chosen
resume_cycle-requires-clause-chosen c marks told =
    (c.args.self.now.cycle, itself_resumes c.args.self.now 0 marks (c.requires.sound marks told))

pub returns : goal.returns
returns c = record {
  ended = c.drop_cycle.ensures.dropped
      ∙ ap (λ (one : Mutator). in_cycle one Quiet unopened) c.resume_cycle.ensures.resumed.is;
}
