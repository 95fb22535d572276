use Rattle.mark_world.specs.Safety.{plain_slots}
use Rattle.mark_core.specs.HeaderChange.{IsSureSlot}
use Rattle.mark_core.proofs.Passing.{PassBelow}
use Rattle.mark_core.proofs.conditions.are_sure.Given as goal

abbrev pub invariant-loop-offset : goal.invariant-loop-offset
invariant-loop-offset l = PassBelow (plain_slots l.new) (IsSureSlot l.world l.at (plain_slots l.old)) l.offset
