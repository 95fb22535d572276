use Rattle.collector.proofs.MadeRoom.{keeps_twice, some_shown}
use Rattle.collector.proofs.script_heap.Heap.make_room.Goals as goal

pub serve-requires-clause-shown : goal.serve-requires-clause-shown
serve-requires-clause-shown c = some_shown c.collect.ensures.shows c.requires.shown

pub returns-clause-rooms : goal.returns-clause-rooms
returns-clause-rooms c = keeps_twice c.collect.ensures.rooms c.serve.ensures.rooms
