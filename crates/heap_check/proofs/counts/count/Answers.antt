-- The count goes on from cell to cell.
use Rattle.std.proofs.Common.{arith}
use Rattle.heap_model.specs.Images.{image_heap}
use Rattle.image_walk.proofs.CellsOnward.{onward_below_roots}
use Rattle.live_cells.proofs.CountSteps.{counts_none}
use Rattle.heap_check.proofs.CountedCells.{boundary_first, counts_on, counts_over_all}
use Rattle.heap_check.proofs.counts.count.Goals as goal

pub loop-cell-init : goal.loop-cell-init
loop-cell-init c = record {
  boundary = boundary_first (image_heap c.args.image.now);
  counts = counts_none (image_heap c.args.image.now);
}

pub next_from-requires-clause-sized : goal.next_from-requires-clause-sized
next_from-requires-clause-sized c = c.requires.whole.sized.words

pub next_from-requires-clause-rows : goal.next_from-requires-clause-rows
next_from-requires-clause-rows c = c.requires.whole.rows

pub with_cell-counts-requires-clause-counts : goal.with_cell-counts-requires-clause-counts
with_cell-counts-requires-clause-counts c = counts_on c.in-Some.ensures.next.first c.loop-cell.invariant.counts

pub loop-cell-smaller : goal.loop-cell-smaller
loop-cell-smaller c =
    let onward = onward_below_roots (image_heap c.args.image.now) c.loop-cell.at c.in-Some.cell c.requires.whole.rows
    c.in-Some.ensures.next in
    omega (arith, onward.0, onward.1)

pub loop-cell-preserved : goal.loop-cell-preserved
loop-cell-preserved c = record {
  boundary = c.in-Some.ensures.next.onward;
  counts = c.with_cell-counts.ensures;
}

pub returns : goal.returns
returns c rows are = counts_over_all c.requires.whole.rows are c.in_default.ensures.next c.loop-cell.invariant.counts
