-- No run is taken where none of the free runs has so many words.
use Rattle.std.proofs.Common.{◌↔◌, IsNone, subst}
use Rattle.free_runs.specs.FreeRuns.{FitsNowhere}
use Rattle.write_barrier.specs.MutatorState.{Mutator}
use Rattle.write_barrier.proofs.main_side.Main.take_free.Goals as goal

pub returns-clause-none : goal.returns-clause-none
returns-clause-none c =
    subst (λ (main : Mutator). IsNone c.take.result ↔ FitsNowhere main.free c.args.n) c.self.view_is
    c.take.ensures.none
