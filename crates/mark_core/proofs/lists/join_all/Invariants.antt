use Rattle.std.proofs.Common.{◌≡◌, drop}
use Rattle.mark_world.specs.Steps.{all_joined}
use Rattle.mark_core.proofs.lists.join_all.Given as goal

abbrev pub invariant-loop-at : goal.invariant-loop-at
invariant-loop-at l = all_joined l.list (drop l.at-index l.others) ≡ all_joined l.fn.list l.others
