use Rattle.std.proofs.Common.{take}
use Rattle.std.specs.List.{list_any}
use Rattle.object_graph.specs.Reach.{refers_to}
use Rattle.object_graph.specs.Marks.{MarksAlso}
use Rattle.ideal_parts.proofs.marks.mark_fields.Given as goal

abbrev pub invariant-loop-field : goal.invariant-loop-field
invariant-loop-field l =
    MarksAlso l.fn.next l.next
    (λ number. list_any (λ field. refers_to number field.value) (take l.field-index l.fields))
