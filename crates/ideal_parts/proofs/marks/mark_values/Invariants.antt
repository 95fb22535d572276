use Rattle.std.proofs.Common.{take}
use Rattle.std.specs.List.{list_any}
use Rattle.object_graph.specs.Reach.{refers_to}
use Rattle.object_graph.specs.Marks.{MarksAlso}
use Rattle.ideal_parts.proofs.marks.mark_values.Given as goal

abbrev pub invariant-loop-value : goal.invariant-loop-value
invariant-loop-value l =
    MarksAlso l.fn.next l.next (λ number. list_any (refers_to number) (take l.value-index l.values))
