use Rattle.std.proofs.Common.{◌≡◌, ◌∙◌, ◌+◌, ◌<◌, true, false, Ok, Err, refl, sym, ap, subst, get_or, arith}
use Rattle.std.proofs.lemmas.Option.{slice_get_past}
use Rattle.std.specs.Prelude.{slice_get, None, Some}
use Rattle.object_graph.specs.Run.{lines_most}
use Rattle.script_text.specs.Unrolled.{executed_lines}
use Rattle.script_text.proofs.Left.{at_most_four}
use Rattle.write_barrier.specs.MutatorState.{heap_of}
use Rattle.collector.specs.States.{HeapState}
use Rattle.heap_script.specs.Stages.{stage_of}
use Rattle.heap_script.proofs.Ways.{goes_on, is_inside, past_end}
use Rattle.heap_script.specs.Runs.{OutputHolds, IsDue}
use Rattle.heap_script.proofs.Handing.{CutsOff-handed}
use Rattle.heap_script.proofs.Passing.{as_taken, as_handed}
use Rattle.heap_script.proofs.Running.{next-drop, Running-start, Running-handed}
use Rattle.heap_script.proofs.LineCarried.{Running-line, OutputHolds-line}
use Rattle.heap_script.proofs.Ending.{EndsRun-end, EndsRun-limit, Stopped-line, Pauses-stopped}
use Rattle.heap_script.proofs.LineSpaces.{line_space}
use Rattle.heap_script.specs.Progress.{command_in, how_of}
use Rattle.heap_script.specs.declared.finished.How.TheVariants as ways
use Rattle.heap_script.specs.Found.{PausesFound}
use Rattle.heap_script.specs.Inspecting.{HasInspected}
use Rattle.heap_script.proofs.InspectedLines.{notes_next, passes_inspected}
use Rattle.heap_script.proofs.Judging.{is_for, Running-judged, Pauses-judged}
use Rattle.heap_script.proofs.Inspected.{paused_found, paused_here, stopped_not_end}
use Rattle.heap_script.proofs.interpreter.interpret.Goals as goal

pub loop-at-init : goal.loop-at-init
loop-at-init g c =
    let taken = g.K.Sink.HasTaken c.args.sink.now in
    record {
      running = rw (c.requires.empty, c.new-turns.ensures)
          (Running-start c.args.script.now c.args.heap.now taken
          (rw c.lines-lines.ensures.all at c.lines-lines.ensures.placed) c.requires.shown
          c.requires.opened c.requires.closed c.requires.variables);
      holds = rw c.requires.empty OutputHolds.nothing;
      space = refl;
      inspected = HasInspected.nothing;
      same = refl;
      taken = λ none. none;
      steady = refl;
    }

pub execute_line-requires-clause-inside : goal.execute_line-requires-clause-inside
execute_line-requires-clause-inside g c =
    is_inside c.lines-lines.result.now c.args.script.now.lines c.loop-at.at c.loop-at.turns _ c.lines-lines.ensures.all
    c.loop-at-test.true c.loop-at.invariant.running.left

pub execute_line-requires-clause-deep : goal.execute_line-requires-clause-deep
execute_line-requires-clause-deep g c =
    let r = c.loop-at.invariant.running in
    let lines = c.lines-lines.result.now in
    let line = get_or lines c.loop-at.at past_end in
    let script = c.args.script.now in
    let goes = goes_on lines script.lines c.loop-at.at c.loop-at.turns _ c.lines-lines.ensures.all c.loop-at-test.true
    r.left in
    at_most_four script.lines _ _ _ c.lines-lines.ensures.matched goes.left

pub returns-then-executed-eq-LINES_MOST-clause-pauses : goal.returns-then-executed-eq-LINES_MOST-clause-pauses
returns-then-executed-eq-LINES_MOST-clause-pauses g c =
    let r = c.loop-at.invariant.running in
    let lines = c.lines-lines.result.now in
    let line = get_or lines c.loop-at.at past_end in
    let script = c.args.script.now in
    let goes = goes_on lines script.lines c.loop-at.at c.loop-at.turns _ c.lines-lines.ensures.all c.loop-at-test.true
    r.left in
    rw c.after.ensures (
      None,
      false,
      λ is. refl,
      c.loop-at.invariant.inspected,
      paused_here ways.LineLimit line.number r (
        EndsRun-limit script (stage_of c.loop-at.heap.main) _ c.loop-at.executed line.number _ _ r.reached goes
            c.if-executed-eq-LINES_MOST.true,
        r.handed,
        c.loop-at.invariant.steady,
      ),
    )

pub returns-clause-pauses : goal.returns-clause-pauses
returns-clause-pauses g c =
    let r = c.loop-at.invariant.running in
    let lines = c.lines-lines.result.now in
    let past : slice_get c.args.script.now.lines c.loop-at.at ≡ None =
    rw (← c.lines-lines.ensures.all) (slice_get_past lines c.loop-at.at c.loop-at-test.false) in
    rw c.after-2.ensures (
      None,
      false,
      λ is. refl,
      c.loop-at.invariant.inspected,
      paused_here ways.End 0 r (
        EndsRun-end c.args.script.now (stage_of c.loop-at.heap.main) c.loop-at.at c.loop-at.executed c.loop-at.turns
            r.reached r.left past,
        r.handed,
        c.loop-at.invariant.steady,
      ),
    )

pub returns-in_default : goal.returns-in_default
returns-in_default g c =
    let script = c.args.script.now in
    let r = c.loop-at.invariant.running in
    let lines = c.lines-lines.result.now in
    let line = get_or lines c.loop-at.at past_end in
    let goes = goes_on lines script.lines c.loop-at.at c.loop-at.turns _ c.lines-lines.ensures.all c.loop-at-test.true
    r.left in
    let next = next-drop (executed_lines script.lines) c.loop-at.executed _ goes.rest goes.is in
    let due : IsDue script c.loop-at.executed = record {
      held = c.loop-at.out;
      holds = c.loop-at.invariant.holds;
      fills = c.in_default.ensures.due;
      next = next.within;
      few = omega (arith, r.reached.few);
    } in
    record {
      pauses = rw c.after-in_default.ensures (
        None,
        false,
        λ is. refl,
        c.loop-at.invariant.inspected,
        paused_here (ways.SinkFault 0) 0 r (
          (refl, refl, refl, due),
          CutsOff-handed r.handed c.in_default.ensures.stopped,
          rw c.loop-at.invariant.steady at c.in_default.ensures.failed,
        ),
      );
      space = c.loop-at.invariant.space;
      same = c.loop-at.invariant.same;
      taken = c.loop-at.invariant.taken;
    }

pub stopped-how-requires : goal.stopped-how-requires
stopped-how-requires g c =
    let script = c.args.script.now in
    let before = c.loop-at.invariant.running in
    let n = c.loop-at.executed in
    let lines = c.lines-lines.result.now in
    let line = get_or lines c.loop-at.at past_end in
    let heap = c.loop-at.heap in
    let r = Running-handed script heap _ _ c.flush_if_full.new.out _ _ _ _ _ _ _ before c.in-Ok.ensures.handed in
    let goes = goes_on lines script.lines c.loop-at.at c.loop-at.turns _ c.lines-lines.ensures.all c.loop-at-test.true
    r.left in
    let below : n < lines_most = omega (arith, r.reached.few) in
    let after = c.execute_line.new.heap in
    let (text, noted, out-is) = c.in-Err.ensures.carried r.reached.so_far.graph r.shown r.made in
    let stopped = Stopped-line script heap after _ c.flush_if_full.new.out _ _ c.loop-at.at _ c.loop-at.turns _ n
    line.number _ text c.in-Err.stop r below goes c.in-Err.ensures.rest noted.carries in
    record {
      shown = (stopped.running.reached.so_far.graph, stopped.running.shown);
      for_heap = is_for c.args.heap.now after c.loop-at.invariant.same
          (line_space script.fields heap.rest.in_cycle heap.main after.main r.reached.so_far.graph
          (command_in line.what) text (Err c.in-Err.stop) noted.carries ∙ c.loop-at.invariant.space)
          c.requires.for_heap;
    }

pub returns-in-Err : goal.returns-in-Err
returns-in-Err g c =
    let script = c.args.script.now in
    let before = c.loop-at.invariant.running in
    let n = c.loop-at.executed in
    let lines = c.lines-lines.result.now in
    let line = get_or lines c.loop-at.at past_end in
    let heap = c.loop-at.heap in
    let r = Running-handed script heap _ _ c.flush_if_full.new.out _ _ _ _ _ _ _ before c.in-Ok.ensures.handed in
    let goes = goes_on lines script.lines c.loop-at.at c.loop-at.turns _ c.lines-lines.ensures.all c.loop-at-test.true
    r.left in
    let below : n < lines_most = omega (arith, r.reached.few) in
    let after = c.execute_line.new.heap in
    let (text, noted, out-is) = c.in-Err.ensures.carried r.reached.so_far.graph r.shown r.made in
    let stopped = Stopped-line script heap after _ c.flush_if_full.new.out _ _ c.loop-at.at _ c.loop-at.turns _ n
    line.number _ text c.in-Err.stop r below goes c.in-Err.ensures.rest noted.carries in
    let paused =
    Pauses-stopped c.in-Err.stop stopped (c.in-Ok.ensures.steady ∙ c.loop-at.invariant.steady) in
    let judged = c.stopped-how.ensures in
    let (found, answered, how-is) = judged.judged in
    record {
      pauses = rw (out-is, c.after-in-Err.ensures, how-is) (
        found,
        true,
        λ is. absurd (stopped_not_end found c.in-Err.stop is),
        subst
            (λ one. HasInspected g.J.Judge.Judged script c.args.heap.now c.args.inspection.now true n one
            c.stopped-how.new.inspection found) (sym judged.taken)
            (HasInspected.line n heap after c.loop-at.inspection c.stopped-how.new.inspection found
            c.loop-at.invariant.inspected (Err c.in-Err.stop)
            (notes_next script heap after _ _ n line.number (command_in line.what) text (Err c.in-Err.stop) r.reached
            goes c.in-Err.ensures.rest noted) answered),
        paused_found found (how_of c.in-Err.stop) (c.in-Ok.ensures.steady ∙ c.loop-at.invariant.steady)
            (Pauses-judged paused judged.taken),
      );
      space = ap (λ (one : HeapState). one.main.seat.space) judged.taken
          ∙ line_space script.fields heap.rest.in_cycle heap.main after.main r.reached.so_far.graph
          (command_in line.what) text (Err c.in-Err.stop) noted.carries ∙ c.loop-at.invariant.space;
      same = judged.same ∙ c.loop-at.invariant.same;
      taken = λ none. ap (λ (one : HeapState). one.collected) judged.taken;
    }

pub flaw_behind-requires : goal.flaw_behind-requires
flaw_behind-requires g c =
    let script = c.args.script.now in
    let before = c.loop-at.invariant.running in
    let n = c.loop-at.executed in
    let lines = c.lines-lines.result.now in
    let line = get_or lines c.loop-at.at past_end in
    let heap = c.loop-at.heap in
    let r = Running-handed script heap _ _ c.flush_if_full.new.out _ _ _ _ _ _ _ before c.in-Ok.ensures.handed in
    let goes = goes_on lines script.lines c.loop-at.at c.loop-at.turns _ c.lines-lines.ensures.all c.loop-at-test.true
    r.left in
    let below : n < lines_most = omega (arith, r.reached.few) in
    let ran = c.in-Ok-execute_line.ensures in
    let (text, noted, out-is) = ran.carried r.reached.so_far.graph r.shown r.made in
    let running = Running-line script heap c.execute_line.new.heap c.loop-at.objects c.flush_if_full.new.out _ _
    c.loop-at.at _ c.loop-at.turns _ n line.number _ text r below goes ran.rest noted.carries in
    record {
      shown = (running.reached.so_far.graph, running.shown);
      for_heap = is_for c.args.heap.now c.execute_line.new.heap c.loop-at.invariant.same
          (line_space script.fields heap.rest.in_cycle heap.main c.execute_line.new.heap.main
          r.reached.so_far.graph (command_in line.what) text (Ok tt) noted.carries ∙ c.loop-at.invariant.space)
          c.requires.for_heap;
    }

pub run_lines-ran-requires : goal.run_lines-ran-requires
run_lines-ran-requires g c =
    let script = c.args.script.now in
    let before = c.loop-at.invariant.running in
    let n = c.loop-at.executed in
    let lines = c.lines-lines.result.now in
    let line = get_or lines c.loop-at.at past_end in
    let heap = c.loop-at.heap in
    let r = Running-handed script heap _ _ c.flush_if_full.new.out _ _ _ _ _ _ _ before c.in-Ok.ensures.handed in
    let goes = goes_on lines script.lines c.loop-at.at c.loop-at.turns _ c.lines-lines.ensures.all c.loop-at-test.true
    r.left in
    let below : n < lines_most = omega (arith, r.reached.few) in
    let ran = c.in-Ok-execute_line.ensures in
    let (text, noted, out-is) = ran.carried r.reached.so_far.graph r.shown r.made in
    let running = Running-line script heap c.execute_line.new.heap c.loop-at.objects c.flush_if_full.new.out _ _
    c.loop-at.at _ c.loop-at.turns _ n line.number _ text r below goes ran.rest noted.carries in
    let judged = c.flaw_behind.ensures in
    let on = Running-judged running judged.taken in
    record {
      runs = (on.handed.handed, rw (ran.place, ran.turned, ran.counted, out-is) (as_taken on));
      variables = on.reached.variables;
      fields = c.requires.fields;
    }

pub loop-at-smaller : goal.loop-at-smaller
loop-at-smaller g c =
    omega (arith, c.run_lines-ran.ensures.further, c.loop-at.invariant.running.reached.few)

pub returns-in-Some : goal.returns-in-Some
returns-in-Some g c =
    let script = c.args.script.now in
    let before = c.loop-at.invariant.running in
    let n = c.loop-at.executed in
    let lines = c.lines-lines.result.now in
    let line = get_or lines c.loop-at.at past_end in
    let heap = c.loop-at.heap in
    let r = Running-handed script heap _ _ c.flush_if_full.new.out _ _ _ _ _ _ _ before c.in-Ok.ensures.handed in
    let goes = goes_on lines script.lines c.loop-at.at c.loop-at.turns _ c.lines-lines.ensures.all c.loop-at-test.true
    r.left in
    let below : n < lines_most = omega (arith, r.reached.few) in
    let ran = c.in-Ok-execute_line.ensures in
    let (text, noted, out-is) = ran.carried r.reached.so_far.graph r.shown r.made in
    let running = Running-line script heap c.execute_line.new.heap c.loop-at.objects c.flush_if_full.new.out _ _
    c.loop-at.at _ c.loop-at.turns _ n line.number _ text r below goes ran.rest noted.carries in
    let judged = c.flaw_behind.ensures in
    let on = Running-judged running judged.taken in
    record {
      pauses = rw c.after-in-Some.ensures (
        Some c.in-Some.flaw,
        false,
        λ is. refl,
        subst
            (λ one. HasInspected g.J.Judge.Judged script c.args.heap.now c.args.inspection.now false (n + 1) one
            c.flaw_behind.new.inspection (Some c.in-Some.flaw)) (sym judged.taken)
            (HasInspected.line n heap c.execute_line.new.heap c.loop-at.inspection c.flaw_behind.new.inspection
            (Some c.in-Some.flaw) c.loop-at.invariant.inspected (Ok tt)
            (notes_next script heap c.execute_line.new.heap _ _ n line.number (command_in line.what) text (Ok tt)
            r.reached goes ran.rest noted) c.in-Some.ensures.judged),
        PausesFound.flawed c.in-Some.flaw on.reached.so_far.graph refl on.shown
            (c.in-Ok.ensures.steady ∙ c.loop-at.invariant.steady),
      );
      space = ap (λ (one : HeapState). one.main.seat.space) judged.taken
          ∙ line_space script.fields heap.rest.in_cycle heap.main c.execute_line.new.heap.main
          r.reached.so_far.graph (command_in line.what) text (Ok tt) noted.carries ∙ c.loop-at.invariant.space;
      same = judged.same ∙ c.loop-at.invariant.same;
      taken = λ none. ap (λ (one : HeapState). one.collected) judged.taken;
    }

pub loop-at-preserved : goal.loop-at-preserved
loop-at-preserved g c =
    let script = c.args.script.now in
    let before = c.loop-at.invariant.running in
    let n = c.loop-at.executed in
    let lines = c.lines-lines.result.now in
    let line = get_or lines c.loop-at.at past_end in
    let heap = c.loop-at.heap in
    let r = Running-handed script heap _ _ c.flush_if_full.new.out _ _ _ _ _ _ _ before c.in-Ok.ensures.handed in
    let goes = goes_on lines script.lines c.loop-at.at c.loop-at.turns _ c.lines-lines.ensures.all c.loop-at-test.true
    r.left in
    let below : n < lines_most = omega (arith, r.reached.few) in
    let ran = c.in-Ok-execute_line.ensures in
    let (text, noted, out-is) = ran.carried r.reached.so_far.graph r.shown r.made in
    let running = Running-line script heap c.execute_line.new.heap c.loop-at.objects c.flush_if_full.new.out _ _
    c.loop-at.at _ c.loop-at.turns _ n line.number _ text r below goes ran.rest noted.carries in
    let judged = c.flaw_behind.ensures in
    let on = Running-judged running judged.taken in
    let holds = OutputHolds-line script (heap_of heap.main) _ _ _ _ n line.number _ text _ r.reached goes noted.carries
    c.in-Ok.ensures.waits c.loop-at.invariant.holds in
    let lines_ran = c.run_lines-ran.ensures in
    let runs = lines_ran.runs on.handed.handed
    (rw (ran.place, ran.turned, ran.counted, out-is) (as_taken on)) in
    record {
      running = as_handed runs on.handed.taken;
      holds = lines_ran.holds (rw out-is holds);
      space = lines_ran.space ∙ ap (λ (one : HeapState). one.main.seat.space) judged.taken
          ∙ line_space script.fields heap.rest.in_cycle heap.main c.execute_line.new.heap.main
          r.reached.so_far.graph (command_in line.what) text (Ok tt) noted.carries ∙ c.loop-at.invariant.space;
      inspected = passes_inspected
          (subst
          (λ one. HasInspected g.J.Judge.Judged script c.args.heap.now c.args.inspection.now false (n + 1) one
          c.flaw_behind.new.inspection None) (sym judged.taken)
          (HasInspected.line n heap c.execute_line.new.heap c.loop-at.inspection c.flaw_behind.new.inspection None
          c.loop-at.invariant.inspected (Ok tt)
          (notes_next script heap c.execute_line.new.heap _ _ n line.number (command_in line.what) text (Ok tt)
          r.reached goes ran.rest noted) c.in_default-flaw_behind.ensures.judged))
          (lines_ran.passes on.handed.handed
          (rw (ran.place, ran.turned, ran.counted, out-is) (as_taken on))
          (ap (λ (one : HeapState). one.collected) judged.taken));
      same = judged.same ∙ c.loop-at.invariant.same;
      taken = λ none. lines_ran.noted ∙ ap (λ (one : HeapState). one.collected) judged.taken;
      steady = c.in-Ok.ensures.steady ∙ c.loop-at.invariant.steady;
    }
