use Rattle.std.proofs.Common.{◌≡◌, drop}
use Rattle.mark_world.specs.Pages.{targets_joined}
use Rattle.mark_core.proofs.lists.join_targets.Given as goal

abbrev pub invariant-loop-word : goal.invariant-loop-word
invariant-loop-word l = targets_joined l.old l.list (drop l.word-index l.words) ≡ targets_joined l.old l.fn.list l.words
