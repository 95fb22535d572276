use Rattle.heap_model.specs.Images.{image_heap}
use Rattle.heap_model.proofs.CellsApart.{has_is_cell}
use Rattle.image_walk.proofs.ObjectNaming.{own_slot}
use Rattle.slow_check.proofs.NamingSlots.{other_of_object}
use Rattle.slow_check.proofs.naming.slot_of.Goals as goal

pub slot_in-requires-clause-is_cell : goal.slot_in-requires-clause-is_cell
slot_in-requires-clause-is_cell c = has_is_cell c.requires.stands

pub returns-in-Some : goal.returns-in-Some
returns-in-Some c =
    own_slot (image_heap c.args.image.now) c.args.object c.args.named c.in-Some.slot c.requires.stands
    c.in-Some.ensures

pub returns-in-None : goal.returns-in-None
returns-in-None c =
    other_of_object (image_heap c.args.image.now) c.args.object c.args.named c.slot_next_to.result
    c.requires.stands c.in-None.ensures c.slot_next_to.ensures
