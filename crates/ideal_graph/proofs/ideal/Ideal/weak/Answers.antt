use Rattle.std.proofs.Common.{◌∙◌, ap, subst, List, length, ◌<◌}
use Rattle.std.specs.Prelude.{IfOk}
use Rattle.heap_command.specs.declared.command.FaultWord.TheVariants.{NotWeak}
use Rattle.object_graph.specs.declared.object.Object.{Object}
use Rattle.object_graph.specs.Graphs.{weak_at}
use Rattle.ideal_parts.specs.Lookups.{FindsAs, seen_weak}
use Rattle.ideal_graph.specs.Steps.{NamedGraph}
use Rattle.ideal_graph.proofs.ideal.Ideal.weak.Goals as goal

pub returns-clause-found : goal.returns-clause-found
returns-clause-found c =
    let objects = c.deref.ensures.value ∙ ap (λ (v : NamedGraph). v.graph.objects) c.self.view_is in
    let finds = λ (all : List Object). FindsAs seen_weak NotWeak (weak_at all c.args.value) c.weak_at.result in
    subst finds objects c.weak_at.ensures.found

pub returns-clause-within : goal.returns-clause-within
returns-clause-within c =
    let objects = c.deref.ensures.value ∙ ap (λ (v : NamedGraph). v.graph.objects) c.self.view_is in
    let within = λ (all : List Object). IfOk c.weak_at.result (λ weak. weak.number < length all) in
    subst within objects c.weak_at.ensures.within
