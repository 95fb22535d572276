use Rattle.std.proofs.Common.{◌∙◌}
use Rattle.heap_script.specs.Inspecting.{counts_at_end, plan_of}
use Rattle.heap_script.proofs.Inspected.{pauses_inspected, inspected_space, shown_found}
use Rattle.heap_script.proofs.FoundEnds.{with_inspected, found_cut, found_written, found_failed}
use Rattle.heap_script.proofs.Judging.{is_for}
use Rattle.heap_script.proofs.interpreter.run_script.Goals as goal

pub inspect_end-requires : goal.inspect_end-requires
inspect_end-requires g c =
    let ran = c.interpret-ran in
    let (found, ended, at_end, inspected, paused) = ran.ensures.pauses in
    record {
      shown = shown_found paused;
      for_heap = is_for c.args.heap.now ran.new.heap ran.ensures.same ran.ensures.space c.requires.for_heap;
    }

pub returns-in-SinkFault-clause-finishes : goal.returns-in-SinkFault-clause-finishes
returns-in-SinkFault-clause-finishes g c =
    let ran = c.interpret-ran in
    let (found, ended, at_end, inspected, paused) = ran.ensures.pauses in
    let is = pauses_inspected g.J.Judge.Judged g.J.Judge.regions c.args.heap.now c.args.inspection.now
    c.args.script.now ran.new.heap c.inspect_end.new.heap ran.new.out ran.result.line ran.result.executed
    (g.K.Sink.HasTaken c.args.sink.now)
    (g.K.Sink.HasTaken ran.new.sink) (g.K.Sink.faults c.args.sink.now) (g.K.Sink.faults ran.new.sink)
    ran.new.inspection c.inspect_end.new.inspection ran.result.how c.inspect_end.result at_end inspected paused
    c.inspect_end.ensures in
    let ends = rw ran.ensures.same at is in
    with_inspected g.J.Judge.Judged c.args.heap.now c.args.inspection.now c.inspect_end.new.inspection
    (counts_at_end (plan_of g.J.Judge.regions c.args.inspection.now)) c.args.script.now
    c.inspect_end.new.heap ran.new.out ends.found ends.ended ends.inspected
    (found_cut g.J.Judge.Judged c.args.heap.now c.args.inspection.now c.inspect_end.new.inspection
    (counts_at_end (plan_of g.J.Judge.regions c.args.inspection.now)) c.args.script.now
    c.inspect_end.new.heap ran.new.out c.inspect_end.result ran.result.line ran.result.executed
    c.in-SinkFault.need _ _ _ _ c.in-SinkFault.is ends.paused)

pub returns-in-SinkFault-clause-shows : goal.returns-in-SinkFault-clause-shows
returns-in-SinkFault-clause-shows g c =
    let ran = c.interpret-ran in
    let (found, ended, at_end, inspected, paused) = ran.ensures.pauses in
    let is = pauses_inspected g.J.Judge.Judged g.J.Judge.regions c.args.heap.now c.args.inspection.now
    c.args.script.now ran.new.heap c.inspect_end.new.heap ran.new.out ran.result.line ran.result.executed
    (g.K.Sink.HasTaken c.args.sink.now)
    (g.K.Sink.HasTaken ran.new.sink) (g.K.Sink.faults c.args.sink.now) (g.K.Sink.faults ran.new.sink)
    ran.new.inspection c.inspect_end.new.inspection ran.result.how c.inspect_end.result at_end inspected paused
    c.inspect_end.ensures in
    let ends = rw ran.ensures.same at is in
    shown_found ends.paused

pub returns-in-SinkFault-clause-space : goal.returns-in-SinkFault-clause-space
returns-in-SinkFault-clause-space g c =
    let ran = c.interpret-ran in
    let (found, ended, at_end, inspected, paused) = ran.ensures.pauses in
    let (graph, shown) = shown_found paused in
    inspected_space g.J.Judge.Judged ran.new.inspection c.inspect_end.new.inspection ran.new.heap
    c.inspect_end.new.heap graph
    ran.result.how c.inspect_end.result (c.inspect_end.ensures graph shown) ∙ ran.ensures.space

pub returns-in-Ok : goal.returns-in-Ok
returns-in-Ok g c =
    let ran = c.interpret-ran in
    let (found, ended, at_end, inspected, paused) = ran.ensures.pauses in
    let is = pauses_inspected g.J.Judge.Judged g.J.Judge.regions c.args.heap.now c.args.inspection.now
    c.args.script.now ran.new.heap c.inspect_end.new.heap ran.new.out ran.result.line ran.result.executed
    (g.K.Sink.HasTaken c.args.sink.now)
    (g.K.Sink.HasTaken ran.new.sink) (g.K.Sink.faults c.args.sink.now) (g.K.Sink.faults ran.new.sink)
    ran.new.inspection c.inspect_end.new.inspection ran.result.how c.inspect_end.result at_end inspected paused
    c.inspect_end.ensures in
    let ends = rw ran.ensures.same at is in
    let (graph, shown) = shown_found paused in
    record {
      finishes = with_inspected g.J.Judge.Judged c.args.heap.now c.args.inspection.now c.inspect_end.new.inspection
          (counts_at_end (plan_of g.J.Judge.regions c.args.inspection.now)) c.args.script.now
          c.inspect_end.new.heap ran.new.out ends.found ends.ended ends.inspected
          (found_written g.J.Judge.Judged c.args.heap.now c.args.inspection.now c.inspect_end.new.inspection
          (counts_at_end (plan_of g.J.Judge.regions c.args.inspection.now)) c.args.script.now
          c.inspect_end.new.heap ran.new.out c.inspect_end.result ran.result.line ran.result.executed _ _ _ _ _ _
          c.in_default.not-SinkFault ends.paused ends.ends c.in-Ok.ensures.appended c.in-Ok.ensures.steady);
      emptied = λ other. c.in-Ok.ensures.emptied;
      shows = shown_found ends.paused;
      space = inspected_space g.J.Judge.Judged ran.new.inspection c.inspect_end.new.inspection ran.new.heap
          c.inspect_end.new.heap graph
          ran.result.how c.inspect_end.result (c.inspect_end.ensures graph shown) ∙ ran.ensures.space;
    }

pub returns-in-Err : goal.returns-in-Err
returns-in-Err g c =
    let ran = c.interpret-ran in
    let (found, ended, at_end, inspected, paused) = ran.ensures.pauses in
    let is = pauses_inspected g.J.Judge.Judged g.J.Judge.regions c.args.heap.now c.args.inspection.now
    c.args.script.now ran.new.heap c.inspect_end.new.heap ran.new.out ran.result.line ran.result.executed
    (g.K.Sink.HasTaken c.args.sink.now)
    (g.K.Sink.HasTaken ran.new.sink) (g.K.Sink.faults c.args.sink.now) (g.K.Sink.faults ran.new.sink)
    ran.new.inspection c.inspect_end.new.inspection ran.result.how c.inspect_end.result at_end inspected paused
    c.inspect_end.ensures in
    let ends = rw ran.ensures.same at is in
    let (graph, shown) = shown_found paused in
    record {
      finishes = rw c.need.ensures
          (with_inspected g.J.Judge.Judged c.args.heap.now c.args.inspection.now c.inspect_end.new.inspection
          (counts_at_end (plan_of g.J.Judge.regions c.args.inspection.now)) c.args.script.now
          c.inspect_end.new.heap ran.new.out ends.found ends.ended ends.inspected
          (found_failed g.J.Judge.Judged c.args.heap.now c.args.inspection.now c.inspect_end.new.inspection
          (counts_at_end (plan_of g.J.Judge.regions c.args.inspection.now))
          c.args.script.now c.inspect_end.new.heap ran.new.out c.inspect_end.result ran.result.line
          ran.result.executed _ _ _ _ _ _ c.in_default.not-SinkFault ends.paused ends.ends
          c.in-Err.ensures.stopped c.in-Err.ensures.failed));
      emptied = λ other. absurd (other tt);
      shows = shown_found ends.paused;
      space = inspected_space g.J.Judge.Judged ran.new.inspection c.inspect_end.new.inspection ran.new.heap
          c.inspect_end.new.heap graph
          ran.result.how c.inspect_end.result (c.inspect_end.ensures graph shown) ∙ ran.ensures.space;
    }
