use Rattle.std.proofs.Common.{refl}
use Rattle.heap_model.specs.Images.{image_heap}
use Rattle.image_walk.proofs.CellsOnward.{passed_region, passed_to_cell, passed_all}
use Rattle.image_walk.proofs.next_cell.next_from.Goals as goal

pub returns-in-Some-next_of_row-clause-next : goal.returns-in-Some-next_of_row-clause-next
returns-in-Some-next_of_row-clause-next c =
    let found = c.in-Some-next_of_row.ensures.cell in
    passed_to_cell (image_heap c.args.image.now) c.args.from c.loop-end.at c.in-Some-next_of_row.cell c.requires.rows
    c.loop-end.invariant found.0 found.1

pub loop-end-preserved : goal.loop-end-preserved
loop-end-preserved c =
    passed_region (image_heap c.args.image.now) c.args.from c.loop-end.at c.in-Some.end c.requires.rows
    c.loop-end.invariant c.in-Some.ensures.cells c.in_default-next_of_row.ensures.cell

pub returns-clause-next : goal.returns-clause-next
returns-clause-next c =
    passed_all (image_heap c.args.image.now) c.args.from c.loop-end.at c.requires.rows c.loop-end.invariant
    (c.in_default.ensures.behind.0 refl)
