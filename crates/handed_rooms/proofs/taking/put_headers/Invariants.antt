-- The headers of the copies before a number were put.
use Rattle.write_barrier.specs.Seats.{heap_words}
use Rattle.handed_rooms.specs.Taken.{HasRefs, StaysBeside}
use Rattle.handed_rooms.proofs.taking.put_headers.Given as goal

abbrev pub invariant-loop-number : goal.invariant-loop-number
invariant-loop-number l = record {
  headers : HasRefs l.copies l.number (heap_words l.fn.main.seat) (heap_words l.main.seat);
  beside : StaysBeside l.fn.main l.main;
}
