-- The slots before have moved.
use Rattle.std.proofs.Common.{◌+◌}
use Rattle.tagged_word.specs.Cells.{plain_head}
use Rattle.shape_tree.specs.Shapes.{shape_path}
use Rattle.write_barrier.specs.Storing.{StoresOn}
use Rattle.shape_change.specs.Shifts.{MovesDown, own_touch}
use Rattle.shape_change.proofs.shift_slots.move_own.Given as goal

abbrev pub invariant-loop-slot : goal.invariant-loop-slot
invariant-loop-slot l =
    let how = own_touch (shape_path l.fn.main.paths l.shape) l.object in
    record {
      stores : StoresOn l.fn.main l.main;
      moves : MovesDown l.fn.main l.main (l.object + (plain_head + l.from)) (l.object + (plain_head + l.slot)) how;
    }
