use Rattle.ideal_parts.proofs.BindingTrees.{remove-entries}
use Rattle.ideal_parts.proofs.bindings.unbind.Goals as goal

pub returns : goal.returns
returns c = remove-entries c.args.bindings.now c.remove.new.self c.args.x c.remove.ensures.updates
