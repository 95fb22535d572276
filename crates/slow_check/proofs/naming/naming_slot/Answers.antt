use Rattle.std.proofs.Common.{arith}
use Rattle.heap_model.specs.Images.{image_heap}
use Rattle.image_walk.proofs.CellsOnward.{onward_below_roots}
use Rattle.slow_check.proofs.NamingSlots.{none_to_more}
use Rattle.slow_check.proofs.naming.naming_slot.Goals as goal

pub loop-cell-smaller : goal.loop-cell-smaller
loop-cell-smaller c =
    let onward = onward_below_roots (image_heap c.args.image.now) c.loop-cell.at c.in-Some.cell c.requires.rows
    c.in-Some.ensures.next in
    omega (arith, onward.0, onward.1)

pub loop-cell-preserved : goal.loop-cell-preserved
loop-cell-preserved c = record {
  boundary = c.in-Some.ensures.next.onward;
  none = none_to_more (image_heap c.args.image.now) c.args.named c.loop-cell.at c.in-Some.cell
      c.requires.rows c.in-Some.ensures.next c.loop-cell.invariant.none c.in_default-slot_of_cell.ensures;
}
