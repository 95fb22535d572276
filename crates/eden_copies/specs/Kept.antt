-- What a worker keeps in its fields.
use Rattle.std.specs.Prelude.{◌≤◌}
use Rattle.std.specs.Vec.{vec_capacity}
use Rattle.eden_copies.specs.declared.worker.Worker.TheInside.{Inside}
use Rattle.eden_copies.specs.Sides.{WorkerSide}

-- the room, the copies and the slots that are left
abbrev pub side_of : Inside → WorkerSide
side_of worker = record {
  most = worker.most;
  start = worker.start;
  room = worker.room.items;
  copies = worker.copies.items;
  left = worker.left.items;
}

-- there is memory for each word that the room may have, and for as many copies and slots
pub record IsRoomy (worker : Inside) : Type 0 where
  pub room : worker.most ≤ vec_capacity worker.room
  pub copies : worker.most ≤ vec_capacity worker.copies
  pub left : worker.most ≤ vec_capacity worker.left
