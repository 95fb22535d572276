use Rattle.std.proofs.Common.{arith}
use Rattle.heap_model.specs.Images.{image_heap}
use Rattle.image_walk.proofs.CellsOnward.{onward_below_roots}
use Rattle.image_walk.proofs.FirstCells.{none_from_more}
use Rattle.image_walk.proofs.finding.first_from.Goals as goal

pub loop-cell-smaller : goal.loop-cell-smaller
loop-cell-smaller c =
    let onward = onward_below_roots (image_heap c.args.image.now) c.loop-cell.at c.in-Some.cell c.requires.rows
    c.in-Some.ensures.next in
    omega (arith, onward.0, onward.1)

pub loop-cell-preserved : goal.loop-cell-preserved
loop-cell-preserved c = record {
  boundary = c.in-Some.ensures.next.onward;
  none = none_from_more (image_heap c.args.image.now) c.args.least c.loop-cell.at c.in-Some.cell c.requires.rows
      c.in-Some.ensures.next c.loop-cell.invariant.none (omega (arith, c.if-cell-least.false));
}

-- at the address or behind it, the next cell is the first
pub returns-then-cell-least : goal.returns-then-cell-least
returns-then-cell-least c =
    let next = c.in-Some.ensures.next.first in
    record {
      has = next.has;
      reached = c.if-cell-least.true;
      first = λ other words has from. next.first other words has (c.loop-cell.invariant.none other words has from);
    }
