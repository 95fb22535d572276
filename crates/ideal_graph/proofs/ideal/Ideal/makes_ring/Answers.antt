use Rattle.std.proofs.Common.{◌∙◌, ap}
use Rattle.object_graph.specs.Prototypes.{makes_ring}
use Rattle.ideal_graph.specs.Steps.{NamedGraph}
use Rattle.ideal_graph.proofs.ideal.Ideal.makes_ring.Goals as goal

pub returns : goal.returns
returns c =
    let objects = c.deref.ensures.value ∙ ap (λ (v : NamedGraph). v.graph.objects) c.self.view_is in
    c.makes_ring.ensures ∙ ap (λ all. makes_ring all c.args.number c.args.proto) objects
