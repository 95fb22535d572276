use Rattle.std.proofs.Common.{◌∙◌, ap, subst, List, length, ◌<◌}
use Rattle.std.specs.Prelude.{IfOk}
use Rattle.heap_command.specs.declared.command.FaultWord.TheVariants.{NotObject}
use Rattle.object_graph.specs.declared.object.Object.{Object}
use Rattle.object_graph.specs.Graphs.{plain_at}
use Rattle.ideal_parts.specs.Lookups.{FindsAs, seen_plain}
use Rattle.ideal_graph.specs.Steps.{NamedGraph}
use Rattle.ideal_graph.proofs.ideal.Ideal.plain.Goals as goal

pub returns-clause-found : goal.returns-clause-found
returns-clause-found c =
    let objects = c.deref.ensures.value ∙ ap (λ (v : NamedGraph). v.graph.objects) c.self.view_is in
    let finds = λ (all : List Object). FindsAs seen_plain NotObject (plain_at all c.args.value) c.plain_at.result in
    subst finds objects c.plain_at.ensures.found

pub returns-clause-within : goal.returns-clause-within
returns-clause-within c =
    let objects = c.deref.ensures.value ∙ ap (λ (v : NamedGraph). v.graph.objects) c.self.view_is in
    let within = λ (all : List Object). IfOk c.plain_at.result (λ plain. plain.number < length all) in
    subst within objects c.plain_at.ensures.within
