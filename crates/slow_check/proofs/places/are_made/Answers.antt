use Rattle.std.proofs.Common.{◌<◌, sym, ◌∙◌, refl, subst, arith}
use Rattle.std.proofs.lemmas.Bool.{false≢true}
use Rattle.heap_model.specs.Images.{image_heap}
use Rattle.heap_model.specs.Heaps.{HasCell, words_of_cell}
use Rattle.image_walk.proofs.CellsOnward.{onward_below_roots}
use Rattle.slow_check.proofs.PlacesBetween.{made_to_more}
use Rattle.slow_check.proofs.places.are_made.Goals as goal

pub loop-cell-smaller : goal.loop-cell-smaller
loop-cell-smaller c =
    let onward = onward_below_roots (image_heap c.args.image.now) c.loop-cell.at c.in-Some.cell c.requires.rows
    c.in-Some.ensures.next in
    omega (arith, onward.0, onward.1)

pub loop-cell-preserved : goal.loop-cell-preserved
loop-cell-preserved c = record {
  boundary = c.in-Some.ensures.next.onward;
  made = made_to_more (image_heap c.args.image.now) c.args.count c.loop-cell.at c.in-Some.cell
      c.requires.rows c.in-Some.ensures.next c.loop-cell.invariant.made (c.is_made.ensures.0 c.if-not-is_made.false);
}

-- the cell is one at a place of its own number
pub returns-then-not-is_made : goal.returns-then-not-is_made
returns-then-not-is_made c =
    let cell = c.in-Some.cell in (
      λ wrong. absurd (false≢true wrong),
      λ made. sym c.if-not-is_made.true ∙ c.is_made.ensures.1
          (λ object. made cell.header.object cell.at record {
            cell = cell;
            words = words_of_cell (image_heap c.args.image.now) cell;
            has = c.in-Some.ensures.next.first.has;
            stands = refl;
            object = object;
            carries = refl;
          }),
    )

pub returns : goal.returns
returns c =
    let heap = image_heap c.args.image.now in (
      λ done number at place.
          let has : HasCell heap place.cell (words_of_cell heap place.cell) =
          subst (HasCell heap place.cell) (sym place.has.words_are) place.has in
          let before = c.in_default.ensures.next place.cell (words_of_cell heap place.cell) has in
          subst (λ n. n < c.args.count) place.carries
          (c.loop-cell.invariant.made place.cell has before place.object),
      λ made. refl,
    )
