use Rattle.std.proofs.Common.{◌≡◌, length, sym, ap, ◌∙◌}
use Rattle.ideal_graph.specs.Steps.{NamedGraph}
use Rattle.object_graph.specs.Reach.{reach}
use Rattle.object_graph.proofs.Rounds.{length-rounds}
use Rattle.ideal_graph.proofs.ideal.Ideal.census.Goals as goal

pub count_entries-requires : goal.count_entries-requires
count_entries-requires c =
    let graph = c.args.self.now.graph in
    let objects = c.deref-2.ensures.value ∙ ap (λ (v : NamedGraph). v.graph.objects) c.self.view_is in
    let marks : c.deref-3.result.now ≡ reach graph = c.deref-3.ensures.value ∙ c.in_ok-marks.ensures.marked in
    record { marks_of_all = ap length marks ∙ length-rounds graph (length graph.objects) ∙ ap length (sym objects) }
