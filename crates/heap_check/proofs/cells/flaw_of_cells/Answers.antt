use Rattle.std.proofs.Common.{◌+◌, sym, subst, arith}
use Rattle.heap_model.specs.Images.{image_heap}
use Rattle.heap_check.proofs.CellByCell.{SoundBefore}
use Rattle.image_walk.proofs.CellsOnward.{onward_below_roots}
use Rattle.heap_check.specs.Firsts.{IsVerdict}
use Rattle.heap_check.proofs.CellFlaws.{BreaksBefore, finds_behind, finds_all}
use Rattle.heap_check.proofs.cells.flaw_of_cells.Goals as goal

-- the walk goes on behind the cell, and not past the roots
pub loop-cell-smaller : goal.loop-cell-smaller
loop-cell-smaller c =
    let onward = onward_below_roots (image_heap c.args.image.now) c.loop-cell.at c.in-Some.cell c.requires.rows
    c.in-Some.ensures.next in
    omega (arith, onward.0, onward.1)

pub loop-cell-preserved : goal.loop-cell-preserved
loop-cell-preserved c =
    let heap = image_heap c.args.image.now in
    let cell = c.in-Some.cell in
    let end = cell.at + cell.size in
    record {
      boundary = c.in-Some.ensures.next.onward;
      finds = subst (IsVerdict (SoundBefore heap end) (BreaksBefore heap end)) (sym c.earlier-least.ensures)
          (finds_behind heap c.loop-cell.at cell c.loop-cell.least c.flaw_of_cell.result c.requires.rows
          c.in-Some.ensures.next c.in-Some.ensures.ends.0 c.loop-cell.invariant.finds c.flaw_of_cell.ensures);
    }

pub returns : goal.returns
returns c =
    finds_all (image_heap c.args.image.now) c.loop-cell.at c.loop-cell.least c.in_default.ensures.next
    c.loop-cell.invariant.finds
