use Rattle.std.specs.List.{Contains}
use Rattle.mark_world.specs.Safety.{plain_slots}
use Rattle.mark_core.proofs.Passing.{PassBelow}
use Rattle.mark_core.proofs.safety.includes.Given as goal

abbrev pub invariant-loop-offset : goal.invariant-loop-offset
invariant-loop-offset l = PassBelow (plain_slots l.old) (Contains (plain_slots l.new)) l.offset
