use Rattle.std.proofs.Common.{◌≡◌, [], map}
use Rattle.std.specs.List.{range_with_len}
use Rattle.ideal_parts.proofs.paths.empty_paths.Given as goal

abbrev pub invariant-loop-cap : goal.invariant-loop-cap
invariant-loop-cap l = l.paths.items ≡ map (λ cap. record { cap = cap; fields = [] }) (range_with_len 0 l.cap)
