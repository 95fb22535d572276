use Rattle.std.proofs.Common.{refl, sym, ◌∙◌, arith}
use Rattle.std.proofs.lemmas.Bool.{false≢true}
use Rattle.heap_model.specs.Images.{image_heap}
use Rattle.image_walk.proofs.CellsOnward.{onward_below_roots}
use Rattle.slow_check.specs.NeededCells.{IsNeeded}
use Rattle.slow_check.proofs.EachCell.{each_before_more, each_to_end}
use Rattle.slow_check.proofs.exact.are_needed.Goals as goal

pub loop-cell-smaller : goal.loop-cell-smaller
loop-cell-smaller c =
    let onward = onward_below_roots (image_heap c.args.image.now) c.loop-cell.at c.in-Some.cell c.requires.rows
    c.in-Some.ensures.next in
    omega (arith, onward.0, onward.1)

pub loop-cell-preserved : goal.loop-cell-preserved
loop-cell-preserved c =
    let heap = image_heap c.args.image.now in
    record {
      boundary = c.in-Some.ensures.next.onward;
      each = each_before_more heap (IsNeeded heap c.args.marks.now) c.loop-cell.at c.in-Some.cell c.requires.rows
          c.in-Some.ensures.next c.loop-cell.invariant.each (c.is_needed.ensures.0 c.if-not-is_needed.false);
    }

pub returns-then-not-is_needed : goal.returns-then-not-is_needed
returns-then-not-is_needed c = (
  λ wrong. absurd (false≢true wrong),
  λ are. sym c.if-not-is_needed.true ∙ c.is_needed.ensures.1 (are c.in-Some.cell c.in-Some.ensures.next.first.has),
)

pub returns : goal.returns
returns c =
    let heap = image_heap c.args.image.now in (
      λ done. each_to_end heap (IsNeeded heap c.args.marks.now) c.loop-cell.at c.in_default.ensures.next
          c.loop-cell.invariant.each,
      λ are. refl,
    )
