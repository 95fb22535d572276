use Rattle.std.proofs.Common.{◌∙◌, sym, ap}
use Rattle.std.specs.Option.{ok_or}
use Rattle.heap_command.specs.declared.command.FaultWord.TheVariants.{Unbound}
use Rattle.ideal_parts.proofs.BindingTrees.{IsLookup-ok_or, get-entries}
use Rattle.ideal_graph.proofs.ideal.Ideal.bound.Goals as goal

pub returns : goal.returns
returns c =
    let found = c.copied.ensures ∙ c.get.ensures.value ∙ sym (get-entries c.self.inside.bindings c.args.x) in
    let answer = c.ok_or.ensures.value ∙ ap (λ sought. ok_or sought Unbound) found in
    rw (← c.self.view_is) (IsLookup-ok_or Unbound _ c.ok_or.result answer)
