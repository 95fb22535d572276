use Rattle.std.proofs.Common.{sym, ◌∙◌, arith}
use Rattle.std.proofs.lemmas.Bool.{false≢true}
use Rattle.heap_model.specs.Images.{image_heap}
use Rattle.image_walk.proofs.CellsOnward.{onward_below_roots}
use Rattle.slow_check.proofs.PlacesBetween.{no_place_more, no_place_to_end, first_place}
use Rattle.slow_check.proofs.places.place_from.Goals as goal

pub loop-cell-smaller : goal.loop-cell-smaller
loop-cell-smaller c =
    let onward = onward_below_roots (image_heap c.args.image.now) c.loop-cell.at c.in-Some.cell c.requires.rows
    c.in-Some.ensures.next in
    omega (arith, onward.0, onward.1)

pub loop-cell-preserved : goal.loop-cell-preserved
loop-cell-preserved c = record {
  boundary = c.in-Some.ensures.next.onward;
  behind = omega (arith, c.loop-cell.invariant.behind, c.in-Some.ensures.next.first.reached);
  none = no_place_more (image_heap c.args.image.now) c.args.number c.args.from c.loop-cell.at c.in-Some.cell
      c.requires.rows c.in-Some.ensures.next c.loop-cell.invariant.none
      (λ is. false≢true (sym c.if-is_of.false ∙ c.is_of.ensures.1 is));
}

pub returns-then-is_of-clause-place : goal.returns-then-is_of-clause-place
returns-then-is_of-clause-place c =
    first_place (image_heap c.args.image.now) c.args.number c.args.from c.loop-cell.at c.in-Some.cell
    c.in-Some.ensures.next c.loop-cell.invariant.behind c.loop-cell.invariant.none (c.is_of.ensures.0 c.if-is_of.true)

pub returns-clause-place : goal.returns-clause-place
returns-clause-place c =
    no_place_to_end (image_heap c.args.image.now) c.args.number c.args.from c.loop-cell.at c.in_default.ensures.next
    c.loop-cell.invariant.none
