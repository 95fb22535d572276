use Rattle.std.proofs.Common.{arith, refl}
use Rattle.heap_model.specs.Images.{image_heap}
use Rattle.heap_model.proofs.CellsApart.{first_of_cell, used_few}
use Rattle.heap_model.proofs.WordsAlike.{cell_below_roots}
use Rattle.image_walk.proofs.Boundaries.{boundary_start}
use Rattle.image_walk.proofs.finding.find_cell.Goals as goal

-- no cell reaches over the first address of a region
pub first_from-requires-clause-boundary : goal.first_from-requires-clause-boundary
first_from-requires-clause-boundary c =
    boundary_start (image_heap c.args.image.now) c.start_before.result c.in-Some.end c.requires.rows
    c.start_before.ensures.stands (omega (arith, c.start_before.ensures.before, c.in-Some.ensures.ahead))

-- cells end before the roots
pub returns-in_default : goal.returns-in_default
returns-in_default c cell words has here =
    omega (
      arith,
      here,
      c.in_default.ensures.behind.0 refl,
      (first_of_cell has).below,
      cell_below_roots (used_few c.requires.rows) has,
    )

-- a cell at the address would be the first
pub returns-else-cell-address : goal.returns-else-cell-address
returns-else-cell-address c cell words has here =
    let found = c.in-Some-first_from.ensures in
    c.if-cell-address.false
    (omega (arith, found.first cell words has (omega (arith, here)), here, found.reached))

pub returns-in-None : goal.returns-in-None
returns-in-None c cell words has here = omega (arith, here, c.in-None.ensures cell words has)
