use Rattle.std.proofs.Common.{◌≡◌, ◌≤◌, count_by, take}
use Rattle.object_graph.specs.Reach.{is_marked}
use Rattle.ideal_parts.proofs.marks.count_keyed.Given as goal

abbrev pub invariant-loop-entry : goal.invariant-loop-entry
invariant-loop-entry l =
    (l.count ≡ count_by (λ entry. is_marked l.marks entry.key) (take l.entry-index l.entries))
    × (l.count ≤ l.entry-index)
