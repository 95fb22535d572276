-- The words before were judged, and nothing but the record has changed.
use Rattle.std.proofs.Common.{◌≡◌}
use Rattle.heap_model.specs.Remembered.{Touch}
use Rattle.write_barrier.specs.Recording.{Touches, touched}
use Rattle.write_barrier.proofs.main_side.Main.judge_copies.Given as goal

abbrev pub invariant-loop-slot : goal.invariant-loop-slot
invariant-loop-slot l = record {
  rest : l.self ≡ record l.fn.self { recorded = l.self.recorded };
  touches : Touches l.fn.self l.self (touched Touch.Stored l.fn.at l.slot);
}
