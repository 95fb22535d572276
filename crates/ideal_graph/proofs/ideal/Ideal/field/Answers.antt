use Rattle.std.proofs.Common.{◌∙◌, ap}
use Rattle.object_graph.specs.Prototypes.{field_along, prototypes_most}
use Rattle.ideal_parts.specs.Lookups.{seen_plain}
use Rattle.ideal_graph.specs.Steps.{NamedGraph}
use Rattle.ideal_graph.proofs.ideal.Ideal.field.Goals as goal

pub returns : goal.returns
returns c =
    let objects = c.deref.ensures.value ∙ ap (λ (v : NamedGraph). v.graph.objects) c.self.view_is in
    c.field_along.ensures
    ∙ ap (λ all. field_along all prototypes_most (seen_plain c.args.plain.now) c.args.name) objects
