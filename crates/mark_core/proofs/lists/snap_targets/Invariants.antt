use Rattle.std.proofs.Common.{◌≡◌, drop, [], map}
use Rattle.mark_laws.specs.Types.{SnapSlot}
use Rattle.mark_world.specs.Pages.{targets_joined}
use Rattle.mark_world.specs.Naming.{read_words}
use Rattle.mark_core.proofs.lists.snap_targets.Given as goal

abbrev pub invariant-loop-slot : goal.invariant-loop-slot
invariant-loop-slot l =
    targets_joined l.old l.list (drop l.slot-index (map (λ (slot : SnapSlot). slot.word) l.slot-items))
    ≡ targets_joined l.old [] (read_words l.snap)
