use Rattle.std.specs.List.{Contains}
use Rattle.tagged_word.specs.Cells.{tagged_offsets}
use Rattle.mark_world.specs.Naming.{read_offsets}
use Rattle.mark_core.proofs.Passing.{PassBelow}
use Rattle.mark_core.proofs.naming.are_read.Given as goal

abbrev pub invariant-loop-offset : goal.invariant-loop-offset
invariant-loop-offset l = PassBelow (tagged_offsets l.layout l.long) (Contains (read_offsets l.snap)) l.offset
