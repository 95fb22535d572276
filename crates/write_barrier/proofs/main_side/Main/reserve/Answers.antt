-- The run that there is room for.
use Rattle.std.proofs.Common.{sym, subst}
use Rattle.nursery.specs.Young.{IsYoung}
use Rattle.heap_model.specs.Types.{Run}
use Rattle.write_barrier.specs.MutatorState.{Mutator, IsNextRun}
use Rattle.write_barrier.proofs.Places.{next_run}
use Rattle.write_barrier.proofs.main_side.Main.reserve.Goals as goal

pub returns-clause-run : goal.returns-clause-run
returns-clause-run c =
    let run : Run = record { at = c.in-Some.at; words = c.args.n } in
    let is_young : IsYoung c.self.inside.nursery =
    subst (λ (main : Mutator). IsYoung main.young) (sym c.self.view_is) c.used_fits.ensures.is_young in
    subst (λ (main : Mutator). IsNextRun main.young c.args.n run) c.self.view_is
    (next_run c.self.inside.nursery c.args.n c.in-Some.at is_young c.in-Some.ensures.at c.in-Some.ensures.room)
