-- The slots before have moved.
use Rattle.std.proofs.Common.{◌+◌}
use Rattle.tagged_word.specs.Cells.{store_head}
use Rattle.write_barrier.specs.Storing.{StoresOn}
use Rattle.shape_change.specs.Shifts.{MovesDown, beside_touch}
use Rattle.shape_change.proofs.shift_slots.move_beside.Given as goal

abbrev pub invariant-loop-slot : goal.invariant-loop-slot
invariant-loop-slot l = record {
  stores : StoresOn l.fn.main l.main;
  moves : MovesDown l.fn.main l.main (l.store + (store_head + l.from)) (l.store + (store_head + l.slot)) beside_touch;
}
