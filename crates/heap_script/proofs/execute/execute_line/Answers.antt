use Rattle.std.proofs.Common.{◌∙◌, [], append-nil, add-zero, arith, refl, sym}
use Rattle.heap_script.specs.Collecting.{CarriesCommand}
use Rattle.heap_script.proofs.Asking.{rest_stays}
use Rattle.heap_script.proofs.LinesRun.{no_command}
use Rattle.heap_script.proofs.execute.execute_line.Goals.{then-asks_collector}
use Rattle.heap_script.proofs.execute.execute_line.Goals.{else-asks_collector+in_ok-carry_out-in-Run}
use Rattle.heap_script.proofs.execute.execute_line.Goals as goal

pub returns-after-asks_collector-clause-carried : goal.returns-after-asks_collector-clause-carried
returns-after-asks_collector-clause-carried c = λ graph shown made.
    elim c.if-asks_collector.branch [
      | then-asks_collector w ↦
          let (text, asked, out-is) = w.collect_as_asked.ensures.carried c.args.script.now.fields graph shown in
          rw (c.in-Run.is, w.heap-is, w.out-is) (
            text,
            record { carries = CarriesCommand.asked refl asked.carries; noted = asked.noted },
            out-is,
          )
      | else-asks_collector+in_ok-carry_out-in-Run w ↦
          let (text, carried, out-is) = w.in_ok-carry_out-in-Run.ensures.carried graph shown made in
          rw (c.in-Run.is, w.heap-is, w.out-is) (
            text,
            record {
              carries = CarriesCommand.apart (sym c.asks_collector.ensures ∙ w.if-asks_collector.false)
                  carried.carries;
              noted = carried.noted;
            },
            out-is,
          )
    ]

pub returns-after-asks_collector-clause-rest : goal.returns-after-asks_collector-clause-rest
returns-after-asks_collector-clause-rest c =
    elim c.if-asks_collector.branch [
      | then-asks_collector w ↦ rw (c.in-Run.is, w.heap-is) w.collect_as_asked.ensures.rest
      | else-asks_collector+in_ok-carry_out-in-Run w ↦
          rw (c.in-Run.is, w.heap-is)
          (w.in_ok-carry_out-in-Run.ensures.rest
          ∙ sym (rest_stays c.args.heap.now.rest c.in-Run.command
          (sym c.asks_collector.ensures ∙ w.if-asks_collector.false)))
    ]

pub returns-in_default : goal.returns-in_default
returns-in_default c =
    let none = no_command c.args.what.now c.in_default.not-Run in
    record {
      carried = λ graph shown made. (
        [],
        rw none (record { carries = (refl, refl, refl); noted = refl }),
        sym (append-nil c.args.out.now),
      );
      place = omega (arith, c.jump.ensures.place);
      turned = c.jump.ensures.turns;
      unturned = tt;
      rest = rw none refl;
      counted = rw none (sym (add-zero c.args.objects.now));
    }
