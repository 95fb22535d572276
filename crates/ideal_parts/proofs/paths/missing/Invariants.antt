use Rattle.std.proofs.Common.{◌≡◌}
use Rattle.ideal_parts.proofs.PathLists.{missing_below}
use Rattle.ideal_parts.proofs.paths.missing.Given as goal

abbrev pub invariant-loop-count : goal.invariant-loop-count
invariant-loop-count l = l.more.items ≡ missing_below l.paths l.path l.count
