-- The cells are looked at one after another.
use Rattle.std.proofs.Common.{refl, ◌∙◌, arith}
use Rattle.heap_model.specs.Images.{image_heap}
use Rattle.image_walk.proofs.CellsOnward.{onward_below_roots}
use Rattle.heap_check.proofs.ClearedFlags.{cleared_many, cleared_none}
use Rattle.heap_check.proofs.CountedCells.{boundary_first}
use Rattle.heap_check.proofs.NamedSlots.{names_none, names_on, names_all}
use Rattle.heap_check.proofs.owners.flaw_of_owners.Goals as goal

pub loop-cell-init : goal.loop-cell-init
loop-cell-init c = record {
  boundary = boundary_first (image_heap c.args.image.now);
  names = names_none (cleared_many (image_heap c.args.image.now) c.requires.sized c.requires.cleared)
      (cleared_none (image_heap c.args.image.now) c.requires.cleared);
  as_many = refl;
}

pub next_from-requires-clause-boundary : goal.next_from-requires-clause-boundary
next_from-requires-clause-boundary c = c.loop-cell.invariant.boundary

pub loop-cell-smaller : goal.loop-cell-smaller
loop-cell-smaller c =
    let onward = onward_below_roots (image_heap c.args.image.now) c.loop-cell.at c.in-Some.cell c.requires.rows
    c.in-Some.ensures.next in
    omega (arith, onward.0, onward.1)

pub flaw_of_cell-requires-clause-stands : goal.flaw_of_cell-requires-clause-stands
flaw_of_cell-requires-clause-stands c = c.in-Some.ensures.next.first.has

pub flaw_of_cell-requires-clause-names : goal.flaw_of_cell-requires-clause-names
flaw_of_cell-requires-clause-names c =
    names_on c.loop-cell.invariant.boundary c.in-Some.ensures.next.first c.loop-cell.invariant.names

pub loop-cell-preserved : goal.loop-cell-preserved
loop-cell-preserved c = record {
  boundary = c.in-Some.ensures.next.onward;
  names = c.in_default-flaw_of_cell.ensures.owned;
  as_many = c.flaw_of_cell.ensures.as_many ∙ c.loop-cell.invariant.as_many;
}

pub returns-clause-owned : goal.returns-clause-owned
returns-clause-owned c = names_all c.loop-cell.invariant.boundary c.in_default.ensures.next c.loop-cell.invariant.names
