use Rattle.heap_model.proofs.ShownRooms.{shown_objects_have_rooms}
use Rattle.heap_model.proofs.laws.law_of_rooms.Goals as goal

pub returns : goal.returns
returns c = shown_objects_have_rooms
