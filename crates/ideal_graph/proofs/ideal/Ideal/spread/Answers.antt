use Rattle.std.proofs.Common.{◌≡◌, ◌+◌, suc, ◌≤◌, length, sym, ap, ◌∙◌, arith}
use Rattle.ideal_graph.specs.Steps.{NamedGraph}
use Rattle.object_graph.specs.Reach.{round, rounds}
use Rattle.object_graph.proofs.Marking.{round_is}
use Rattle.object_graph.proofs.Rounds.{length-rounds, ended_is_reach}
use Rattle.ideal_graph.proofs.ideal.Ideal.spread.Goals as goal

pub mark_round-requires-clause-marks_of_all : goal.mark_round-requires-clause-marks_of_all
mark_round-requires-clause-marks_of_all c =
    let graph = c.args.self.now.graph in
    let objects = c.deref.ensures.value ∙ ap (λ (v : NamedGraph). v.graph.objects) c.self.view_is in
    ap length c.loop-turn.invariant.0 ∙ length-rounds graph c.loop-turn._turn ∙ ap length (sym objects)

pub returns-then-is_same : goal.returns-then-is_same
returns-then-is_same c =
    let graph = c.args.self.now.graph in
    let turn = c.loop-turn._turn in
    let marks = c.loop-turn.marks in
    let so_far = c.loop-turn.invariant.0 in
    let objects = c.deref.ensures.value ∙ ap (λ (v : NamedGraph). v.graph.objects) c.self.view_is in
    let long = ap length so_far ∙ length-rounds graph turn in
    let next = round_is graph c.deref.result.now marks c.mark_round.new.next objects long c.mark_round.ensures in
    let count = ap length objects in
    let early : turn ≤ length graph.objects =
    omega (arith, count, c.deref.ensures.len, c.len-turn-end.ensures, c.loop-turn-test.true) in
    ended_is_reach graph marks turn early so_far (sym next ∙ sym (c.is_same.ensures.0 c.if-is_same.true))

pub loop-turn-preserved : goal.loop-turn-preserved
loop-turn-preserved c =
    let graph = c.args.self.now.graph in
    let turn = c.loop-turn._turn in
    let so_far = c.loop-turn.invariant.0 in
    let objects = c.deref.ensures.value ∙ ap (λ (v : NamedGraph). v.graph.objects) c.self.view_is in
    let long = ap length so_far ∙ length-rounds graph turn in
    let marks = c.loop-turn.marks in
    let next = round_is graph c.deref.result.now marks c.mark_round.new.next objects long c.mark_round.ensures in
    let copied = c.copy_from_slice.ensures.after in
    let up : turn + 1 ≡ suc turn = omega arith in
    (copied ∙ next ∙ ap (round graph) so_far ∙ ap (rounds graph) (sym up), sym (ap length copied))
