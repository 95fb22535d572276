-- The heap is bare then.
use Rattle.std.proofs.Common.{subst, sym}
use Rattle.table_tests.specs.WaitingMains.{IsWholeMain}
use Rattle.table_tests.proofs.WaitingMains.{ended_bare}
use Rattle.table_tests.proofs.waiting_mains.end_waiting.Goals as goal

pub end_cycle-requires-clause-sound : goal.end_cycle-requires-clause-sound
end_cycle-requires-clause-sound c =
    let still = subst IsWholeMain (sym c.told-colours.ensures.same) c.pause.ensures.whole in
    still.sound

pub returns : goal.returns
returns c = record {
  bare = ended_bare c.told-colours.new.main c.end_cycle.new.self
      (subst IsWholeMain (sym c.told-colours.ensures.same) c.pause.ensures.whole) c.end_cycle.ensures.ended;
}
