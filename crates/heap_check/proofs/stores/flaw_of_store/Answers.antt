use Rattle.heap_model.specs.Images.{image_heap}
use Rattle.heap_model.specs.Heaps.{words_of_cell}
use Rattle.image_walk.proofs.StoreSlots.{store_has_head}
use Rattle.heap_check.proofs.NumberFlaws.{shape_few, number_is_first, store_by_slots}
use Rattle.heap_check.proofs.stores.flaw_of_store.Goals as goal

pub flaw_of_number-requires-clause-shaped : goal.flaw_of_number-requires-clause-shaped
flaw_of_number-requires-clause-shaped c = shape_few (image_heap c.args.image.now) c.args.cell c.requires.stands

pub behind_head-requires-clause-long : goal.behind_head-requires-clause-long
behind_head-requires-clause-long c =
    store_has_head (image_heap c.args.image.now) c.args.cell c.requires.stands c.requires.of_stores

pub returns-in-Some : goal.returns-in-Some
returns-in-Some c =
    let heap = image_heap c.args.image.now in
    number_is_first heap c.args.cell (words_of_cell heap c.args.cell) c.in-Some.flaw c.in-Some.ensures

pub returns-in-None : goal.returns-in-None
returns-in-None c =
    store_by_slots (image_heap c.args.image.now) c.args.cell c.behind_head.result c.flaw_of_slots.result
    c.requires.of_stores c.in-None.ensures c.behind_head.ensures.from c.behind_head.ensures.slots
    c.flaw_of_slots.ensures
