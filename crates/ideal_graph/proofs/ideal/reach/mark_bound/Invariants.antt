use Rattle.std.proofs.Common.{◌≡◌, ◌++◌, List}
use Rattle.std.specs.List.{list_any}
use Rattle.std.specs.Map.{values_of}
use Rattle.object_graph.specs.declared.value.Value.{Value}
use Rattle.object_graph.specs.Reach.{refers_to}
use Rattle.object_graph.specs.Marks.{MarksAlso}
use Rattle.ideal_graph.proofs.ideal.reach.mark_bound.Given as goal

abbrev pub invariant-loop-value : goal.invariant-loop-value
invariant-loop-value l =
    (seen : List Value) × (seen ++ l.value-iterator ≡ values_of l.bindings.entries)
    × MarksAlso l.fn.marks l.marks (λ number. list_any (refers_to number) seen)
