use Rattle.std.proofs.Common.{ℕ}
use Rattle.std.proofs.lemmas.List.{get_or_default}
use Rattle.object_graph.specs.declared.object.Field.{Field}
use Rattle.object_graph.specs.Reach.{refers_to}
use Rattle.object_graph.proofs.Marking.{MarksAlso-more, MarksAlso-all}
use Rattle.ideal_parts.proofs.marks.mark_fields.Goals as goal

pub loop-field-preserved : goal.loop-field-preserved
loop-field-preserved c =
    let refers = λ (number : ℕ) (field : Field). refers_to number field.value in
    let within = c.loop-field-test.true in
    let here = get_or_default _ _ _ _ within in
    let so_far = c.loop-field.invariant in
    MarksAlso-more refers c.args.fields.now c.loop-field.field-index _ _ _ _ within here so_far c.mark.ensures

pub returns : goal.returns
returns c =
    let refers = λ (number : ℕ) (field : Field). refers_to number field.value in
    let so_far = c.loop-field.invariant in
    MarksAlso-all refers c.args.fields.now c.loop-field.field-index _ _ c.loop-field-test.false so_far
