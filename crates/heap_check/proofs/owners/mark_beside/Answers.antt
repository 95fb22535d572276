-- The flags are set cell by cell.
use Rattle.std.proofs.Common.{arith}
use Rattle.heap_model.specs.Images.{image_heap}
use Rattle.image_walk.proofs.CellsOnward.{onward_below_roots}
use Rattle.heap_check.proofs.BesideFlags.{beside_none, beside_more, beside_all}
use Rattle.heap_check.proofs.ClearedFlags.{cleared_many, cleared_none}
use Rattle.heap_check.proofs.CountedCells.{boundary_first}
use Rattle.heap_check.proofs.owners.mark_beside.Goals as goal

pub loop-cell-init : goal.loop-cell-init
loop-cell-init c = record {
  boundary = boundary_first (image_heap c.args.image.now);
  flags = beside_none (cleared_many (image_heap c.args.image.now) c.requires.sized c.requires.cleared)
      (cleared_none (image_heap c.args.image.now) c.requires.cleared);
}

pub mark_beside_cell-requires-clause-stands : goal.mark_beside_cell-requires-clause-stands
mark_beside_cell-requires-clause-stands c = c.in-Some.ensures.next.first.has

pub mark_beside_cell-requires-clause-as_many : goal.mark_beside_cell-requires-clause-as_many
mark_beside_cell-requires-clause-as_many c = c.loop-cell.invariant.flags.as_many

pub loop-cell-smaller : goal.loop-cell-smaller
loop-cell-smaller c =
    let onward = onward_below_roots (image_heap c.args.image.now) c.loop-cell.at c.in-Some.cell c.requires.rows
    c.in-Some.ensures.next in
    omega (arith, onward.0, onward.1)

pub loop-cell-preserved : goal.loop-cell-preserved
loop-cell-preserved c = record {
  boundary = c.in-Some.ensures.next.onward;
  flags = beside_more c.requires.rows c.in-Some.ensures.next c.mark_beside_cell.ensures c.loop-cell.invariant.flags;
}

pub returns : goal.returns
returns c = beside_all c.in_default.ensures.next c.loop-cell.invariant.flags
