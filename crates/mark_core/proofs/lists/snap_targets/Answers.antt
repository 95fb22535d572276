use Rattle.std.proofs.Common.{List, ℕ, ◌+◌, ◌∙◌, ap, drop, map, arith}
use Rattle.mark_laws.specs.Types.{SnapSlot}
use Rattle.mark_world.specs.Pages.{targets_joined}
use Rattle.mark_core.proofs.JoinedLists.{next_slot_joins}
use Rattle.mark_core.proofs.lists.snap_targets.Goals as goal

pub loop-slot-preserved : goal.loop-slot-preserved
loop-slot-preserved c =
    let slots : List SnapSlot = c.as_slice-slot-items.result.now in
    let at : ℕ = c.loop-slot.slot-index in
    let joins = λ (list : List ℕ). targets_joined c.args.old list (drop (at + 1) (map (λ slot. slot.word) slots)) in
    let joined = c.in_ok-join_target.ensures in
    ap joins joined
    ∙ next_slot_joins c.args.old c.loop-slot.list slots at (record { offset = 0; word = 0 }) (omega arith)
    ∙ c.loop-slot.invariant
