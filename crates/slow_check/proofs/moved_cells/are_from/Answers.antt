use Rattle.std.proofs.Common.{refl, sym, ◌∙◌, arith}
use Rattle.std.proofs.lemmas.Bool.{false≢true}
use Rattle.heap_model.specs.Images.{image_heap}
use Rattle.heap_moves.specs.Moved.{IsFrom}
use Rattle.image_walk.proofs.CellsOnward.{onward_below_roots}
use Rattle.slow_check.specs.Moves.{to_of}
use Rattle.slow_check.proofs.EachCell.{each_before_more, each_to_end}
use Rattle.slow_check.proofs.moved_cells.are_from.Goals as goal

pub loop-cell-smaller : goal.loop-cell-smaller
loop-cell-smaller c =
    let onward = onward_below_roots (image_heap c.args.new.now) c.loop-cell.at c.in-Some.cell c.requires.new_rows
    c.in-Some.ensures.next in
    omega (arith, onward.0, onward.1)

pub loop-cell-preserved : goal.loop-cell-preserved
loop-cell-preserved c = record {
  boundary = c.in-Some.ensures.next.onward;
  each = each_before_more (image_heap c.args.new.now) (IsFrom (image_heap c.args.old.now) (to_of c.args.moves.now))
      c.loop-cell.at c.in-Some.cell c.requires.new_rows c.in-Some.ensures.next c.loop-cell.invariant.each
      (c.is_from.ensures.0 c.if-not-is_from.false);
}

pub returns-then-not-is_from : goal.returns-then-not-is_from
returns-then-not-is_from c = (
  λ wrong. absurd (false≢true wrong),
  λ are. sym c.if-not-is_from.true ∙ c.is_from.ensures.1 (are c.in-Some.cell c.in-Some.ensures.next.first.has),
)

pub returns : goal.returns
returns c = (
  λ done. each_to_end (image_heap c.args.new.now) (IsFrom (image_heap c.args.old.now) (to_of c.args.moves.now))
      c.loop-cell.at c.in_default.ensures.next c.loop-cell.invariant.each,
  λ are. refl,
)
