-- The cycle goes on as it was.
use Rattle.std.proofs.Common.{sym, ap, subst}
use Rattle.write_barrier.specs.Layouts.{HasLayouts}
use Rattle.write_barrier.specs.MutatorState.{Mutator}
use Rattle.write_barrier.proofs.ResumedCycles.{goes_on_itself}
use Rattle.table_tests.proofs.WaitingMains.{waited}
use Rattle.table_tests.proofs.waiting_mains.wait.Goals as goal

pub resume_cycle-requires-clause-paused : goal.resume_cycle-requires-clause-paused
resume_cycle-requires-clause-paused c = ap (λ (one : Mutator). one.seat.phase) c.pause_cycle.ensures.paused.is

pub resume_cycle-requires-clause-layouts : goal.resume_cycle-requires-clause-layouts
resume_cycle-requires-clause-layouts c =
    subst HasLayouts (sym c.pause_cycle.ensures.paused.is) c.requires.marking.layouts

pub resume_cycle-requires-clause-chosen : goal.resume_cycle-requires-clause-chosen
resume_cycle-requires-clause-chosen c = goes_on_itself c.pause_cycle.ensures.paused 0

pub returns : goal.returns
returns c = record {
  marking = waited c.args.main.now c.pause_cycle.new.self c.resume_cycle.new.self 0 c.pause_cycle.ensures.paused
      c.resume_cycle.ensures.resumed c.resume_cycle.ensures.home c.resume_cycle.ensures.out c.requires.marking;
}
