-- The next slot is that of what is recorded.
use Rattle.std.proofs.Common.{MatchOption, subst}
use Rattle.remembered_set.specs.Recorded.{HasNoneFrom, IsNextRecorded}
use Rattle.write_barrier.specs.MutatorState.{Mutator}
use Rattle.write_barrier.proofs.main_side.Main.next_recorded.Goals as goal

pub returns-clause-next : goal.returns-clause-next
returns-clause-next c =
    subst (λ (main : Mutator). MatchOption c.next.result (HasNoneFrom main.recorded c.args.from)
    (λ slot. IsNextRecorded main.recorded c.args.from slot)) c.self.view_is c.next.ensures.next
