use Rattle.std.proofs.lemmas.List.{get_or_default}
use Rattle.object_graph.specs.Reach.{refers_to}
use Rattle.object_graph.proofs.Marking.{MarksAlso-more, MarksAlso-all}
use Rattle.ideal_parts.proofs.marks.mark_values.Goals as goal

pub loop-value-preserved : goal.loop-value-preserved
loop-value-preserved c =
    let within = c.loop-value-test.true in
    let here = get_or_default _ _ _ _ within in
    let so_far = c.loop-value.invariant in
    MarksAlso-more refers_to c.args.values.now c.loop-value.value-index _ _ _ _ within here so_far c.mark.ensures

pub returns : goal.returns
returns c =
    let so_far = c.loop-value.invariant in
    MarksAlso-all refers_to c.args.values.now c.loop-value.value-index _ _ c.loop-value-test.false so_far
