-- The root words before a variable were followed, where they are dealt.
use Rattle.std.proofs.Common.{ℕ, List}
use Rattle.eden_copies.specs.Eden.{deal_of, MayCopy}
use Rattle.eden_copies.specs.Copied.{GoesOn, IsDealing}
use Rattle.eden_copies.proofs.dealing.follow_roots.Given as goal

abbrev pub invariant-loop-variable : goal.invariant-loop-variable
invariant-loop-variable g l = record {
  dealing : (recorded : List ℕ) → MayCopy l.words (deal_of recorded l.first l.every)
      → IsDealing l.words (deal_of recorded l.first l.every) 0 l.fn.worker l.fn.seat
      → IsDealing l.words (deal_of recorded l.first l.every) l.variable l.worker l.seat;
  goes : GoesOn l.fn.worker l.worker l.fn.seat l.seat;
}
