use Rattle.std.proofs.Common.{◌≡◌, ◌+◌, ◌++◌, map}
use Rattle.std.specs.HashMap.{hash_map_len, spare}
use Rattle.std.specs.Map.Iter.{deref_pair}
use Rattle.shape_tree.proofs.CopiedSteps.{Copies}
use Rattle.shape_tree.proofs.tree.copy_steps.Given as goal

abbrev pub invariant-loop-step : goal.invariant-loop-step
invariant-loop-step l = record {
  left : map deref_pair l.yielded ++ l.step-iterator ≡ l.others.entries;
  copies : Copies (hash_map_len l.fn.steps + spare l.fn.steps) (map deref_pair l.yielded) l.steps;
}
