use Rattle.std.proofs.lemmas.Bool.{false≢true}
use Rattle.heap_model.specs.Images.{image_heap}
use Rattle.slow_check.proofs.ShownCells.{reached_from, reached_to, reached_place}
use Rattle.slow_check.proofs.objects.shows_reached.Goals as goal

pub returns-in-Some : goal.returns-in-Some
returns-in-Some c =
    let heap = image_heap c.args.image.now in
    let marks = c.args.marks.now in
    let what = c.args.object.now in (
      λ yes. reached_from heap marks c.args.number c.in-Some.cell what c.in-Some.ensures (c.shows_object.ensures.0 yes),
      λ shows. c.shows_object.ensures.1
          (reached_to heap marks c.args.number c.in-Some.cell what c.in-Some.ensures shows),
    )

pub returns-in-None : goal.returns-in-None
returns-in-None c =
    let heap = image_heap c.args.image.now in (
      λ wrong. absurd (false≢true wrong),
      λ shows. absurd
          (c.in-None.ensures shows.cell (reached_place heap c.args.marks.now c.args.number c.args.object.now shows)),
    )
