use Rattle.std.proofs.Common.{◌≡◌, ◌≤◌, Some, refl, ◌∙◌, arith}
use Rattle.std.proofs.lemmas.Bool.{false≢true, eq-eqb}
use Rattle.heap_model.specs.Types.{Cell}
use Rattle.heap_model.specs.Images.{image_heap}
use Rattle.image_walk.proofs.CellsOnward.{onward_below_roots}
use Rattle.slow_check.specs.Moves.{to_of}
use Rattle.slow_check.proofs.EachCell.{each_before_more}
use Rattle.slow_check.proofs.moved_cells.comer_from.Goals as goal

pub loop-cell-smaller : goal.loop-cell-smaller
loop-cell-smaller c =
    let onward = onward_below_roots (image_heap c.args.image.now) c.loop-cell.at c.in-Some.cell c.requires.rows
    c.in-Some.ensures.next in
    omega (arith, onward.0, onward.1)

pub loop-cell-preserved : goal.loop-cell-preserved
loop-cell-preserved c =
    let heap = image_heap c.args.image.now in
    let None_comes : Cell → Type 0 = λ cell.
    c.args.from ≤ cell.at → to_of c.args.moves.now cell.at ≡ Some c.args.now → ⊥ in
    record {
      boundary = c.in-Some.ensures.next.onward;
      behind = omega (
        arith,
        c.loop-cell.invariant.behind,
        c.in-Some.ensures.next.first.reached,
        c.in-Some.ensures.ends.0,
      );
      none = each_before_more heap None_comes c.loop-cell.at c.in-Some.cell c.requires.rows c.in-Some.ensures.next
          c.loop-cell.invariant.none
          (λ from comes. false≢true (c.if-eq.ensures ∙ rw (c.place_after.ensures, comes)
          (eq-eqb c.args.now c.args.now refl)));
    }
