use Rattle.std.proofs.Common.{◌≡◌, ap, ◌∙◌, length, drop, arith}
use Rattle.std.specs.FinMap.{values}
use Rattle.std.proofs.lemmas.List.{take_at}
use Rattle.ideal_graph.specs.Steps.{NamedGraph}
use Rattle.object_graph.proofs.Marking.{bound_is}
use Rattle.ideal_graph.proofs.ideal.Ideal.reached.Goals as goal

pub spread-requires-clause-bound : goal.spread-requires-clause-bound
spread-requires-clause-bound c =
    let graph = c.args.self.now.graph in
    let objects = ap (λ (v : NamedGraph). v.graph.objects) c.self.view_is in
    let bound = ap (λ (v : NamedGraph). values v.graph.bindings) c.self.view_is in
    let count = ap length objects in
    let long : c.len.result ≡ length graph.objects = omega (arith, c.len.ensures, count, c.self.inside.objects.ok.0) in
    let none = c.deref_mut.ensures.value ∙ c.in_ok-marks.ensures.items_if_clones_equal (λ y is. is) in
    let kept = c.mark_bound.ensures.same_length ∙ c.deref_mut.ensures.len in
    let marks = c.mark_bound.new.marks in
    c.deref_mut-2.ensures.value
    ∙ take_at marks (drop (length marks) c.in_ok-marks.marks.items) c.in_ok-marks.marks.len kept
    ∙ bound_is graph _ c.deref_mut.result.now marks c.len.result bound long none c.mark_bound.ensures
