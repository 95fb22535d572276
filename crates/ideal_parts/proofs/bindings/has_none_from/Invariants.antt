use Rattle.std.proofs.Common.{◌≡◌, ℕ, ◌++◌, List}
use Rattle.std.specs.Map.{keys_of}
use Rattle.ideal_parts.proofs.BoundFrom.{AreBelow}
use Rattle.ideal_parts.proofs.bindings.has_none_from.Given as goal

abbrev pub invariant-loop-x : goal.invariant-loop-x
invariant-loop-x l =
    (seen : List ℕ) × (seen ++ l.x-iterator ≡ keys_of l.bindings.entries) × AreBelow l.least seen
