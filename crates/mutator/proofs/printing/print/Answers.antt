-- The line of the value.
use Rattle.std.proofs.Common.{refl, ap}
use Rattle.heap_command.specs.declared.command.Command.TheVariants.{Print}
use Rattle.heap_command.specs.declared.command.FaultWord.TheVariants.{Unbound}
use Rattle.object_graph.specs.Meaning.{given, done}
use Rattle.object_graph.specs.Texts.{line, value_text}
use Rattle.mutator.proofs.StillShown.{shows_still, stands_still, value_still}
use Rattle.mutator.proofs.Writings.{writing_carried}
use Rattle.mutator.proofs.printing.print.Goals as goal

pub put_value-requires-clause-shown : goal.put_value-requires-clause-shown
put_value-requires-clause-shown c =
    let (graph, shows) = c.requires.shown in
    let (value, is, stands) = c.in_ok-value.ensures.found graph shows in
    value_still graph value c.in_ok-value.value c.operand.ensures.same shows stands

pub returns-clause-carried : goal.returns-clause-carried
returns-clause-carried c graph names shows =
    let (value, is, stands) = c.in_ok-value.ensures.found graph shows in
    let text = line (value_text graph.objects value) in
    let same = c.operand.ensures.same in (
      text,
      writing_carried names (Print c.args.v) text same shows
          (ap (λ found. given Unbound found (λ one. done graph (line (value_text graph.objects one)))) is)
          (λ rooms. (refl, λ number. refl)),
      c.put_value.ensures graph value (shows_still same shows) (stands_still same stands),
    )
