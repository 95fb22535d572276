-- What was shown is shown while no cycle is open.
use Rattle.std.proofs.Common.{sym, subst}
use Rattle.write_barrier.specs.MutatorState.{Mutator, MainShows}
use Rattle.cycle_opening.proofs.ShownAgain.{shown_quiet}
use Rattle.cycle_opening.proofs.closing.drop_cycle.Goals as goal

pub returns-clause-shows : goal.returns-clause-shows
returns-clause-shows c graph shown =
    subst (λ (one : Mutator). MainShows one graph) (sym c.drop_cycle.ensures.dropped) (shown_quiet shown)
