use Rattle.std.proofs.Common.{◌≡◌, ◌∙◌, ◌-◌, ◌≤◌, ℕ, suc, List, length, drop, refl, sym, ap, subst, arith, rules}
use Rattle.std.proofs.lemmas.List.{length-drop}
use Rattle.object_graph.specs.Run.{lines_most}
use Rattle.script_text.specs.declared.script.Line.{Line}
use Rattle.heap_script.specs.Noting.{Passes}
use Rattle.heap_script.specs.Runs.{OutputHolds}
use Rattle.heap_script.proofs.LinesRun.{none_spent, RunsLines-start, stands_inside}
use Rattle.heap_script.proofs.JumpRun.{deep_jump, within_jump, count_jump, RunsLines-jump}
use Rattle.heap_script.proofs.JumpRun.{passes_jump, holds_jump}
use Rattle.heap_script.proofs.lines.run_lines.Goals.{else-loop-spare-test, then-loop-spare-test+in_default}
use Rattle.heap_script.proofs.lines.run_lines.Goals as goal

pub loop-spare-init : goal.loop-spare-init
loop-spare-init g c =
    let script = c.args.script.now in
    let lines = c.lines-lines.result.now in
    let all = c.lines-lines.ensures.all in
    let at = c.args.from.at in
    let n = c.args.from.executed in
    let rest = c.lines_from-rest.result.now in
    let last = c.min-last.result in
    let within : at ≤ length lines = omega (arith, c.if-from-lines.false) in
    let long : length rest ≡ length lines - at = ap length c.lines_from-rest.ensures ∙ length-drop at lines in
    let (taken, start) = c.requires.runs in
    let begun : n ≤ last = omega (arith, c.min-last.ensures, c.saturating_add.ensures, start.reached.few) in
    let few : last ≤ lines_most = omega (arith, c.min-last.ensures) in
    let enough : length rest ≤ last - n = omega (arith, long, c.if-left-lines.false) in
    let whole = none_spent n (length rest) last begun enough in
    record {
      runs = λ taken start.
          RunsLines-start rest c.lines-lines.ensures.numbered c.lines-lines.ensures.matched c.requires.fields
          (subst (λ (xs : List Line). at ≤ length xs) all within)
          (c.lines_from-rest.ensures ∙ ap (λ (xs : List Line). drop at xs) all) begun few enough start;
      passes = λ taken start none.
          subst (λ (m : ℕ). Passes script c.args.heap.now n c.args.heap.now m) (sym whole) Passes.none;
      holds = λ held. subst (λ (m : ℕ). OutputHolds script m c.args.out.now) (sym whole) held;
      most = omega (arith, enough);
      further = subst (λ (m : ℕ). n ≤ m) (sym whole) (omega arith);
      space = refl;
      noted = refl;
      within = omega (arith, long);
    }

pub run_commands-requires : goal.run_commands-requires
run_commands-requires g c =
    let (taken, start) = c.requires.runs in
    record {
      runs = (
        c.args.script.now,
        c.args.out.now,
        taken,
        c.loop-spare.turns,
        c.loop-spare.spare,
        c.min-last.result,
        c.loop-spare.invariant.runs taken start,
      );
    }

pub jump-after-requires : goal.jump-after-requires
jump-after-requires g c =
    let (taken, start) = c.requires.runs in
    let all = c.lines-lines.ensures.all in
    let ran = c.run_commands.ensures in
    let r = ran.runs c.args.script.now c.args.out.now taken c.loop-spare.turns c.loop-spare.spare c.min-last.result
    (c.loop-spare.invariant.runs taken start) in
    let begins = rw c.in-Some.is at ran.begins in
    record {
      small = search rules;
      jumps = begins.none;
      inside = stands_inside r _ begins.first;
      deep = deep_jump r begins all;
    }

pub overflow_add-spare : goal.overflow_add-spare
overflow_add-spare g c =
    let (taken, start) = c.requires.runs in
    let all = c.lines-lines.ensures.all in
    let ran = c.run_commands.ensures in
    let r = ran.runs c.args.script.now c.args.out.now taken c.loop-spare.turns c.loop-spare.spare c.min-last.result
    (c.loop-spare.invariant.runs taken start) in
    let begins = rw c.in-Some.is at ran.begins in
    let within = within_jump r begins all in
    omega (arith, within, c.jump-after.ensures.place, c.loop-spare-test.true, r.most)

pub lines_from-rest-requires-in-loop-spare : goal.lines_from-rest-requires-in-loop-spare
lines_from-rest-requires-in-loop-spare g c =
    let (taken, start) = c.requires.runs in
    let all = c.lines-lines.ensures.all in
    let ran = c.run_commands.ensures in
    let r = ran.runs c.args.script.now c.args.out.now taken c.loop-spare.turns c.loop-spare.spare c.min-last.result
    (c.loop-spare.invariant.runs taken start) in
    let begins = rw c.in-Some.is at ran.begins in
    let within = within_jump r begins all in
    let last : suc c.jump-after.result ≤ length c.lines-lines.result.now =
    subst (λ (n : ℕ). n ≤ length c.lines-lines.result.now) (sym c.jump-after.ensures.place) within in
    record { within = omega (arith, last) }

pub loop-spare-smaller : goal.loop-spare-smaller
loop-spare-smaller g c =
    let (taken, start) = c.requires.runs in
    let all = c.lines-lines.ensures.all in
    let ran = c.run_commands.ensures in
    let r = ran.runs c.args.script.now c.args.out.now taken c.loop-spare.turns c.loop-spare.spare c.min-last.result
    (c.loop-spare.invariant.runs taken start) in
    let begins = rw c.in-Some.is at ran.begins in
    let count = count_jump r begins all c.loop-spare-test.true c.jump-after.ensures.place
    c.lines_from-rest-in-loop-spare.ensures in
    omega (arith, count, ran.fewer)

pub loop-spare-preserved : goal.loop-spare-preserved
loop-spare-preserved g c =
    let (taken, start) = c.requires.runs in
    let all = c.lines-lines.ensures.all in
    let ran = c.run_commands.ensures in
    let r = ran.runs c.args.script.now c.args.out.now taken c.loop-spare.turns c.loop-spare.spare c.min-last.result
    (c.loop-spare.invariant.runs taken start) in
    let begins = rw c.in-Some.is at ran.begins in
    let kept = c.loop-spare.invariant in
    let room = c.if-is_full.ensures refl in
    let enough = c.loop-spare-test.true in
    let goes = c.jump-after.ensures.place in
    let turned = c.jump-after.ensures.turns in
    let from = c.lines_from-rest-in-loop-spare.ensures in
    let now = RunsLines-jump r begins all enough goes from c.jump-after.new.self turned in
    record {
      runs = λ taken start.
          RunsLines-jump
          (ran.runs c.args.script.now c.args.out.now taken c.loop-spare.turns c.loop-spare.spare c.min-last.result
          (kept.runs taken start)) begins all enough goes from c.jump-after.new.self turned;
      passes = λ taken start none.
          passes_jump
          (ran.runs c.args.script.now c.args.out.now taken c.loop-spare.turns c.loop-spare.spare c.min-last.result
          (kept.runs taken start)) begins all enough goes from (ran.noted ∙ kept.noted ∙ none)
          (ran.passes c.args.script.now c.args.out.now taken c.loop-spare.turns c.loop-spare.spare c.min-last.result
          c.args.heap.now c.args.from.executed (kept.runs taken start) (kept.noted ∙ none)
          (kept.passes taken start none));
      holds = λ held.
          holds_jump r begins all enough goes from room
          (ran.holds c.args.script.now c.args.out.now taken c.loop-spare.turns c.loop-spare.spare c.min-last.result
          (kept.runs taken start) room (kept.holds held));
      most = now.most;
      further = omega (arith, count_jump r begins all enough goes from, kept.most, kept.further, ran.fewer);
      space = ran.space ∙ kept.space;
      noted = ran.noted ∙ kept.noted;
      within = omega (arith, now.is.within, ap length all);
    }

pub returns-clause-runs : goal.returns-clause-runs
returns-clause-runs g c taken start =
    let kept = c.loop-spare.invariant.runs taken start in
    let all = ap (λ (xs : List Line). length xs) c.lines-lines.ensures.all in
    elim c.loop-spare-test.branch [
      | else-loop-spare-test w ↦ rw (w.heap-is, w.objects-is, w.rest-is, all) kept.running
      | then-loop-spare-test+in_default w ↦
          let ran = w.run_commands.ensures in
          let r = ran.runs c.args.script.now c.args.out.now taken c.loop-spare.turns c.loop-spare.spare
          c.min-last.result kept in
          rw (w.heap-is, w.objects-is, w.rest-is, all) r.running
    ]

pub returns-then-is_full-clause-passes : goal.returns-then-is_full-clause-passes
returns-then-is_full-clause-passes g c taken start none = Passes.none

pub returns-clause-passes : goal.returns-clause-passes
returns-clause-passes g c taken start none =
    let kept = c.loop-spare.invariant in
    let all = ap (λ (xs : List Line). length xs) c.lines-lines.ensures.all in
    elim c.loop-spare-test.branch [
      | else-loop-spare-test w ↦ rw (w.heap-is, w.rest-is) (kept.passes taken start none)
      | then-loop-spare-test+in_default w ↦
          rw (w.heap-is, w.rest-is)
          (w.run_commands.ensures.passes c.args.script.now c.args.out.now taken c.loop-spare.turns c.loop-spare.spare
          c.min-last.result
          c.args.heap.now c.args.from.executed (kept.runs taken start) (kept.noted ∙ none)
          (kept.passes taken start none))
    ]

pub returns-clause-holds : goal.returns-clause-holds
returns-clause-holds g c held =
    let (taken, start) = c.requires.runs in
    let kept = c.loop-spare.invariant in
    elim c.loop-spare-test.branch [
      | else-loop-spare-test w ↦ rw w.rest-is (kept.holds held)
      | then-loop-spare-test+in_default w ↦
          rw w.rest-is
          (w.run_commands.ensures.holds c.args.script.now c.args.out.now taken c.loop-spare.turns c.loop-spare.spare
          c.min-last.result
          (kept.runs taken start) (c.if-is_full.ensures refl) (kept.holds held))
    ]

pub returns-clause-space : goal.returns-clause-space
returns-clause-space g c =
    elim c.loop-spare-test.branch [
      | else-loop-spare-test w ↦ rw w.heap-is c.loop-spare.invariant.space
      | then-loop-spare-test+in_default w ↦
          rw w.heap-is (w.run_commands.ensures.space ∙ c.loop-spare.invariant.space)
    ]

pub returns-clause-noted : goal.returns-clause-noted
returns-clause-noted g c =
    elim c.loop-spare-test.branch [
      | else-loop-spare-test w ↦ rw w.heap-is c.loop-spare.invariant.noted
      | then-loop-spare-test+in_default w ↦
          rw w.heap-is (w.run_commands.ensures.noted ∙ c.loop-spare.invariant.noted)
    ]

pub returns-clause-further : goal.returns-clause-further
returns-clause-further g c =
    let kept = c.loop-spare.invariant in
    elim c.loop-spare-test.branch [
      | else-loop-spare-test w ↦ rw w.rest-is kept.further
      | then-loop-spare-test+in_default w ↦ rw w.rest-is (omega (arith, w.run_commands.ensures.fewer, kept.further))
    ]
