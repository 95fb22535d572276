use Rattle.std.proofs.Common.{rules}
use Rattle.ideal_parts.proofs.SamePaths.{pointwise-same_fields}
use Rattle.ideal_parts.proofs.paths.same_path.Goals as goal

pub returns-then-path-other : goal.returns-then-path-other
returns-then-path-other c = search (rules, pointwise-same_fields)
