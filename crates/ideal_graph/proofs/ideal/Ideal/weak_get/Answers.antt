use Rattle.std.proofs.Common.{rules}
use Rattle.ideal_graph.proofs.ideal.Ideal.weak_get.Goals as goal

pub returns : goal.returns
returns c =
    rw (c.in_ok-target.ensures, c.in_ok-named.ensures, c.in_ok-weak.ensures.found, c.in_ok-key.ensures) (search rules)
