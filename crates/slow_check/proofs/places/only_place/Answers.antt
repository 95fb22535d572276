use Rattle.heap_model.specs.Images.{image_heap}
use Rattle.slow_check.proofs.OnlyPlaces.{second_place, one_place}
use Rattle.slow_check.proofs.places.only_place.Goals as goal

pub returns-in-Some-place_from : goal.returns-in-Some-place_from
returns-in-Some-place_from c =
    second_place (image_heap c.args.image.now) c.args.number c.in-Some.cell c.in-Some-place_from.field-0
    c.in-Some.ensures.place c.in-Some-place_from.ensures.place

pub returns-in-None : goal.returns-in-None
returns-in-None c =
    one_place (image_heap c.args.image.now) c.args.number c.in-Some.cell c.requires.rows c.in-Some.ensures.place
    c.in-None.ensures.place
