use Rattle.ideal_parts.proofs.BindingTrees.{insert-entries}
use Rattle.ideal_parts.proofs.bindings.bind.Goals as goal

pub returns-clause-ok : goal.returns-clause-ok
returns-clause-ok c =
    insert-entries c.args.bindings.now c.insert.new.self c.args.x c.args.value c.in_ok-insert.ensures.updates
