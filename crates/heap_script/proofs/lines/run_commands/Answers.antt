use Rattle.std.proofs.Common.{◌∙◌, [], ap, length, refl, sym, arith}
use Rattle.std.proofs.lemmas.List.{length-drop}
use Rattle.script_text.specs.declared.script.What.TheVariants.{Run}
use Rattle.collector.specs.States.{HeapState}
use Rattle.heap_script.proofs.LinesRun.{some_left, first_does, no_command}
use Rattle.heap_script.proofs.Executed.{executed_well, executed_ill}
use Rattle.heap_script.proofs.CommandRun.{names_known, RunsLines-command, passes_command, holds_command}
use Rattle.heap_script.proofs.Retrying.{carried_space}
use Rattle.heap_script.proofs.lines.run_commands.Goals as goal

pub loop-command-init : goal.loop-command-init
loop-command-init g c = record {
  runs = λ script out taken ts spare last start. start;
  passes = λ script out taken ts spare last start from runs none passed. passed;
  holds = λ script out taken ts spare last start room held. held;
  space = refl;
  noted = refl;
  fewer = omega arith;
}

pub execute-requires-clause-shown : goal.execute-requires-clause-shown
execute-requires-clause-shown g c =
    let (script, out, taken, ts, spare, last, start) = c.requires.runs in
    let r = (c.loop-command.invariant.runs script out taken ts spare last start).running in
    (r.reached.so_far.graph, r.shown, r.made)

pub execute-requires-clause-within : goal.execute-requires-clause-within
execute-requires-clause-within g c =
    let (script, out, taken, ts, spare, last, start) = c.requires.runs in
    let rest = c.loop-command.rest.now in
    let some = some_left rest (sym c.loop-command-test.ensures) in
    names_known (c.loop-command.invariant.runs script out taken ts spare last start) c.in-Run.command
    (first_does rest (Run c.in-Run.command) some c.in-Run.is)

pub execute-requires-clause-few : goal.execute-requires-clause-few
execute-requires-clause-few g c =
    let (script, out, taken, ts, spare, last, start) = c.requires.runs in
    let r = c.loop-command.invariant.runs script out taken ts spare last start in
    omega (arith, r.most, r.few, r.running.few, some_left c.loop-command.rest.now (sym c.loop-command-test.ensures))

pub returns-then-not-unwrap_or : goal.returns-then-not-unwrap_or
returns-then-not-unwrap_or g c =
    let kept = c.loop-command.invariant in
    let (script, out, taken, ts, spare, last, start) = c.requires.runs in
    let r = (kept.runs script out taken ts spare last start).running in
    let (still, uncounted) = executed_ill c.loop-command.heap c.execute.new.heap c.loop-command.objects
    c.execute.new.objects c.in-Run.command c.execute.result c.execute.ensures.executed c.execute.ensures.untouched
    c.execute.ensures.uncounted (sym c.if-not-unwrap_or.ensures) (r.reached.so_far.graph, r.shown, r.made) in
    record {
      runs = λ script out taken ts spare last start.
          rw (still, uncounted) (kept.runs script out taken ts spare last start);
      passes = λ script out taken ts spare last start from runs none passed.
          rw still (kept.passes script out taken ts spare last start from runs none passed);
      holds = kept.holds;
      space = ap (λ (heap : HeapState). heap.main.seat.space) still ∙ kept.space;
      noted = ap (λ (heap : HeapState). heap.collected) still ∙ kept.noted;
      fewer = kept.fewer;
      begins = tt;
    }

pub loop-command-smaller : goal.loop-command-smaller
loop-command-smaller g c =
    let rest = c.loop-command.rest.now in
    let some = some_left rest (sym c.loop-command-test.ensures) in
    omega (arith, some, ap length c.lines_from-rest.ensures, length-drop 1 rest)

pub loop-command-preserved : goal.loop-command-preserved
loop-command-preserved g c =
    let rest = c.loop-command.rest.now in
    let on = c.lines_from-rest.ensures in
    let next = c.lines_from-rest.result.now in
    let heap = c.loop-command.heap in
    let after = c.execute.new.heap in
    let objects = c.execute.new.objects in
    let kept = c.loop-command.invariant in
    let command = c.in-Run.command in
    let did = executed_well heap after c.loop-command.objects objects command c.execute.result
    c.execute.ensures.executed (sym c.if-not-unwrap_or.ensures) in
    let does = first_does rest (Run command) (some_left rest (sym c.loop-command-test.ensures)) c.in-Run.is in
    let (script, out, taken, ts, spare, last, start) = c.requires.runs in
    let r = (kept.runs script out taken ts spare last start).running in
    let tries = did.tries [] r.reached.so_far.graph r.shown r.made in
    record {
      runs = λ script out taken ts spare last start.
          RunsLines-command (kept.runs script out taken ts spare last start) command does after next on did.rest
          did.tries objects did.counted;
      passes = λ script out taken ts spare last start from runs none passed.
          passes_command (kept.runs script out taken ts spare last runs) command does after next on did.rest did.tries
          did.noted (kept.noted ∙ none) (kept.passes script out taken ts spare last start from runs none passed);
      holds = λ script out taken ts spare last start room held.
          holds_command (kept.runs script out taken ts spare last start) command does after next on did.rest
          did.tries room (kept.holds script out taken ts spare last start room held);
      space = carried_space [] r.shown.main tries.carries ∙ kept.space;
      noted = did.noted ∙ kept.noted;
      fewer = omega (arith, kept.fewer, ap length on, length-drop 1 rest);
    }

pub returns-in_default : goal.returns-in_default
returns-in_default g c =
    let kept = c.loop-command.invariant in
    let rest = c.loop-command.rest.now in
    let some = some_left rest (sym c.loop-command-test.ensures) in
    record {
      runs = kept.runs;
      passes = kept.passes;
      holds = kept.holds;
      space = kept.space;
      noted = kept.noted;
      fewer = kept.fewer;
      begins = record { first = first_does rest _ some refl; none = no_command _ c.in_default.not-Run };
    }

pub returns : goal.returns
returns g c = record {
  runs = c.loop-command.invariant.runs;
  passes = c.loop-command.invariant.passes;
  holds = c.loop-command.invariant.holds;
  space = c.loop-command.invariant.space;
  noted = c.loop-command.invariant.noted;
  fewer = c.loop-command.invariant.fewer;
  begins = tt;
}
