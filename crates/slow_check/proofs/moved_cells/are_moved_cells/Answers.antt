use Rattle.std.proofs.Common.{refl, sym, ◌∙◌, arith}
use Rattle.std.proofs.lemmas.Bool.{false≢true}
use Rattle.heap_model.specs.Images.{image_heap}
use Rattle.image_walk.proofs.CellsOnward.{onward_below_roots}
use Rattle.slow_check.specs.Moves.{to_of}
use Rattle.slow_check.specs.MovedCells.{IsMovedCell}
use Rattle.slow_check.proofs.EachCell.{each_before_more, each_to_end}
use Rattle.slow_check.proofs.moved_cells.are_moved_cells.Goals as goal

pub loop-cell-smaller : goal.loop-cell-smaller
loop-cell-smaller c =
    let onward = onward_below_roots (image_heap c.args.old.now) c.loop-cell.at c.in-Some.cell c.requires.rows
    c.in-Some.ensures.next in
    omega (arith, onward.0, onward.1)

pub loop-cell-preserved : goal.loop-cell-preserved
loop-cell-preserved c =
    let old = image_heap c.args.old.now in
    let new = image_heap c.args.new.now in
    record {
      boundary = c.in-Some.ensures.next.onward;
      each = each_before_more old (IsMovedCell old new (to_of c.args.moves.now)) c.loop-cell.at c.in-Some.cell
          c.requires.rows c.in-Some.ensures.next c.loop-cell.invariant.each
          (c.is_moved_cell.ensures.0 c.if-not-is_moved_cell.false);
    }

pub returns-then-not-is_moved_cell : goal.returns-then-not-is_moved_cell
returns-then-not-is_moved_cell c = (
  λ wrong. absurd (false≢true wrong),
  λ are. sym c.if-not-is_moved_cell.true ∙ c.is_moved_cell.ensures.1
      (are c.in-Some.cell c.in-Some.ensures.next.first.has),
)

pub returns : goal.returns
returns c =
    let old = image_heap c.args.old.now in
    let new = image_heap c.args.new.now in (
      λ done. each_to_end old (IsMovedCell old new (to_of c.args.moves.now)) c.loop-cell.at c.in_default.ensures.next
          c.loop-cell.invariant.each,
      λ are. refl,
    )
