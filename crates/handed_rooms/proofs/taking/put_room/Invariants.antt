-- The words of the room before an offset were put.
use Rattle.write_barrier.specs.Seats.{heap_words}
use Rattle.handed_rooms.specs.Taken.{HasRoom, StaysBeside}
use Rattle.handed_rooms.proofs.taking.put_room.Given as goal

abbrev pub invariant-loop-offset : goal.invariant-loop-offset
invariant-loop-offset l = record {
  room : HasRoom l.start l.room l.offset (heap_words l.fn.main.seat) (heap_words l.main.seat);
  beside : StaysBeside l.fn.main l.main;
}
