use Rattle.std.proofs.Common.{◌&&◌, take}
use Rattle.std.specs.List.{list_any}
use Rattle.object_graph.specs.Reach.{is_marked, refers_to}
use Rattle.object_graph.specs.Marks.{MarksAlso}
use Rattle.ideal_parts.proofs.marks.mark_entries.Given as goal

abbrev pub invariant-loop-entry : goal.invariant-loop-entry
invariant-loop-entry l =
    MarksAlso l.fn.next l.next (λ number.
    list_any (λ entry. is_marked l.marks entry.key && refers_to number entry.value) (take l.entry-index l.entries))
