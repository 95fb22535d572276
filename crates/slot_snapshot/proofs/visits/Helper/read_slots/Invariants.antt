-- The tagged slots below the offset are read, and nothing else.
use Rattle.std.proofs.Common.{◌≡◌, ◌≤◌, length, map}
use Rattle.tagged_word.specs.Cells.{tagged_offsets}
use Rattle.slot_snapshot.specs.Loads.{offset_of, with_slots, HasReadBelow}
use Rattle.slot_snapshot.proofs.visits.Helper.read_slots.Given as goal

abbrev pub invariant-loop-offset : goal.invariant-loop-offset
invariant-loop-offset l = record {
  seat : l.seat ≡ record l.fn.seat { lent = with_slots l.fn.seat.lent l.self.slots.items };
  read : HasReadBelow (tagged_offsets l.slots.layout l.slots.length) l.offset (map offset_of l.self.slots.items);
  few : length l.self.slots.items ≤ l.offset;
}
