-- The words before an offset stand behind those of the room.
use Rattle.std.proofs.Common.{◌≡◌, ◌++◌, take, drop}
use Rattle.std.specs.Vec.{vec_capacity}
use Rattle.eden_copies.proofs.worker.append.Given as goal

abbrev pub invariant-loop-offset : goal.invariant-loop-offset
invariant-loop-offset l = record {
  items : l.room.items ≡ l.fn.room.items ++ take l.offset (drop l.at l.words.words);
  capacity : vec_capacity l.room ≡ vec_capacity l.fn.room;
}
