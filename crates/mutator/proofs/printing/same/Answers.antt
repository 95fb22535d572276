-- The line of the comparison.
use Rattle.std.proofs.Common.{◌++◌, refl, ◌∙◌, ap}
use Rattle.heap_command.specs.declared.command.Command.TheVariants.{Same}
use Rattle.object_graph.specs.Meaning.{same_value}
use Rattle.object_graph.specs.Texts.{line, truth_text}
use Rattle.mutator.proofs.SameHeld.{held_same}
use Rattle.mutator.proofs.Writings.{writing_carried}
use Rattle.mutator.proofs.printing.same.Goals as goal

pub returns-clause-carried : goal.returns-clause-carried
returns-clause-carried c graph names shows =
    let both = c.in_ok-first.ensures.found graph shows in
    let text = line (truth_text (same_value both.first both.second)) in
    let told = held_same c.in_ok-first.first c.in_ok-first.second both.first both.second shows both.stands_first
    both.stands_second in (
      text,
      writing_carried names (Same c.args.a c.args.b) text c.operands.ensures.same shows
          (rw (both.is_first, both.is_second)) (λ rooms. (refl, λ number. refl)),
      c.put_truth.ensures ∙ ap (λ truth. c.args.out.now ++ line (truth_text truth)) (c.eq.ensures ∙ told),
    )
