use Rattle.std.proofs.Common.{arith}
use Rattle.heap_model.specs.Images.{image_heap}
use Rattle.image_walk.proofs.CellsOnward.{onward_below_roots}
use Rattle.slow_check.proofs.RecordedSlots.{none_over, none_over_end}
use Rattle.slow_check.proofs.remembered.cell_over.Goals as goal

pub loop-cell-smaller : goal.loop-cell-smaller
loop-cell-smaller c =
    let onward = onward_below_roots (image_heap c.args.image.now) c.loop-cell.at c.in-Some.cell c.requires.rows
    c.in-Some.ensures.next in
    omega (arith, onward.0, onward.1)

pub returns : goal.returns
returns c =
    none_over_end (image_heap c.args.image.now) c.loop-cell.at c.args.address c.loop-cell.invariant.boundary
    c.loop-cell.invariant.behind c.in_default.ensures.next

pub returns-then-address-cell : goal.returns-then-address-cell
returns-then-address-cell c =
    none_over (image_heap c.args.image.now) c.loop-cell.at c.args.address c.in-Some.cell c.loop-cell.invariant.boundary
    c.loop-cell.invariant.behind c.in-Some.ensures.next.first c.if-address-cell.true
