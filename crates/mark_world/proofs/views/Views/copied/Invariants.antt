use Rattle.std.proofs.Common.{◌≡◌, take}
use Rattle.mark_world.proofs.views.Views.copied.Given as goal

abbrev pub invariant-loop-view : goal.invariant-loop-view
invariant-loop-view l = l.copy.items ≡ take l.view-index l.view-items
