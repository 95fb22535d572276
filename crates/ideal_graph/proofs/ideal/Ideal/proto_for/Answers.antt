use Rattle.std.proofs.Common.{◌∙◌, ap, subst, List}
use Rattle.heap_command.specs.declared.command.FaultWord.TheVariants.{NotObject}
use Rattle.object_graph.specs.declared.object.Object.{Object}
use Rattle.object_graph.specs.Prototypes.{proto_for}
use Rattle.ideal_parts.specs.Lookups.{IsLookup}
use Rattle.ideal_graph.specs.Steps.{NamedGraph}
use Rattle.ideal_graph.proofs.ideal.Ideal.proto_for.Goals as goal

pub returns : goal.returns
returns c =
    let objects = c.deref.ensures.value ∙ ap (λ (v : NamedGraph). v.graph.objects) c.self.view_is in
    let finds = λ (all : List Object). IsLookup NotObject (proto_for all c.args.value) c.proto_for.result in
    subst finds objects c.proto_for.ensures
