use Rattle.std.proofs.Common.{◌≡◌, take}
use Rattle.scav_core.proofs.copying.copied_workers.Given as goal

abbrev pub invariant-loop-view : goal.invariant-loop-view
invariant-loop-view l = l.list.items ≡ take l.view-index l.workers
