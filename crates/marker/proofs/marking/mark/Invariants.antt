-- So many turns are made, and so many looks in a row found nothing.
use Rattle.std.proofs.Common.{◌≡◌, ◌-◌, ◌≤◌, ◌<◌}
use Rattle.marker.specs.Resting.{Rests, StaysAt}
use Rattle.marker.proofs.Going.{IsGoing}
use Rattle.marker.proofs.marking.mark.Given as goal

abbrev pub invariant-loop-made : goal.invariant-loop-made
invariant-loop-made g l = record {
  most : l.made ≤ l.turns;
  few : l.idle ≤ 64;
  stays : StaysAt l.fn.seat l.seat;
  rests : Rests l.room.list l.seat.lent;
  place : l.room.place < 64;
  bound : l.room.list.bound ≡ l.fn.room.list.bound;
  going : IsGoing l.fn.seat.lent.view.log l.seat.lent.view.log l.room.list.addresses l.made l.room.place l.idle;
}

abbrev pub decreases-loop-made : goal.decreases-loop-made
decreases-loop-made g l = l.turns - l.made
