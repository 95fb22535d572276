use Rattle.heap_model.specs.Images.{image_heap}
use Rattle.heap_check.proofs.NumberFlaws.{shape_few}
use Rattle.heap_check.proofs.stores.flaw_of_box.Goals as goal

pub flaw_of_number-requires-clause-shaped : goal.flaw_of_number-requires-clause-shaped
flaw_of_number-requires-clause-shaped c = shape_few (image_heap c.args.image.now) c.args.cell c.requires.stands
