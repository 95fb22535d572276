-- The recorded slots below an address were followed, where they are dealt.
use Rattle.std.proofs.Common.{◌≤◌, ◌-◌}
use Rattle.eden_copies.specs.Eden.{deal_of}
use Rattle.eden_copies.specs.Copied.{GoesOn, IsDealing}
use Rattle.eden_copies.proofs.DealtSlots.{AreSplit}
use Rattle.eden_copies.proofs.dealing.follow_recorded.Given as goal

abbrev pub invariant-recorded : goal.invariant-recorded
invariant-recorded g l = record {
  dealing : IsDealing l.words (deal_of l.recorded.slots l.first l.every) l.number l.worker l.seat;
  goes : GoesOn l.fn.worker l.worker l.fn.seat l.seat;
  split : AreSplit l.recorded.slots l.from (l.number - l.words.space.variables);
  behind : l.words.space.variables ≤ l.number;
  below : l.from ≤ l.recorded.bound;
}

abbrev pub decreases-recorded : goal.decreases-recorded
decreases-recorded g l = l.recorded.bound - l.from
