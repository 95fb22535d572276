use Rattle.std.proofs.Common.{ℕ, ◌&&◌}
use Rattle.std.proofs.lemmas.List.{get_or_default}
use Rattle.object_graph.specs.declared.object.Entry.{Entry}
use Rattle.object_graph.specs.Reach.{is_marked, refers_to}
use Rattle.object_graph.proofs.Marking.{MarksAlso-more, MarksAlso-all}
use Rattle.ideal_parts.proofs.marks.mark_entries.Goals as goal

pub loop-entry-preserved : goal.loop-entry-preserved
loop-entry-preserved c =
    let keeps = λ (number : ℕ) (entry : Entry). is_marked c.args.marks.now entry.key && refers_to number entry.value in
    let within = c.loop-entry-test.true in
    let here = get_or_default _ _ _ _ within in
    let so_far = c.loop-entry.invariant in
    MarksAlso-more keeps c.args.entries.now c.loop-entry.entry-index _ _ _ _ within here so_far c.mark_entry.ensures

pub returns : goal.returns
returns c =
    let keeps = λ (number : ℕ) (entry : Entry). is_marked c.args.marks.now entry.key && refers_to number entry.value in
    let so_far = c.loop-entry.invariant in
    MarksAlso-all keeps c.args.entries.now c.loop-entry.entry-index _ _ c.loop-entry-test.false so_far
