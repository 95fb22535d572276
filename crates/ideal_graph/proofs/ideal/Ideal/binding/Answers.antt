use Rattle.std.proofs.Common.{◌∙◌, sym}
use Rattle.ideal_parts.proofs.BindingTrees.{get-entries}
use Rattle.ideal_graph.proofs.ideal.Ideal.binding.Goals as goal

pub returns : goal.returns
returns c =
    rw (← c.self.view_is)
    (c.copied.ensures ∙ c.get.ensures.value ∙ sym (get-entries c.self.inside.bindings c.args.x))
