use Rattle.std.proofs.Common.{◌∙◌, ap, sym, refl, map}
use Rattle.object_graph.specs.Meaning.{done}
use Rattle.object_graph.specs.Texts.{line, shape_text}
use Rattle.ideal_graph.specs.Steps.{NamedGraph}
use Rattle.ideal_graph.proofs.ideal.Ideal.shape.Goals as goal

pub returns : goal.returns
returns c =
    let plain = c.in_ok-plain.plain in
    let view = ap (λ (v : NamedGraph). v.names) c.self.view_is in
    let names = ap (λ all. map (λ name. name.items) all) c.deref.ensures.value ∙ view in
    let text = c.in_ok-text.ensures ∙ ap (λ all. shape_text all plain.cap plain.fields.now) names in
    let written = c.in_ok-push.ensures.items ∙ ap line text in
    rw (c.in_ok-target.ensures, c.in_ok-plain.ensures.found)
    (ap (λ bytes. done c.args.self.now.graph bytes) (sym written), refl)
