-- The roots of the cycle are shaded, and the heap shows the graph.
use Rattle.std.proofs.Common.{sym, subst}
use Rattle.write_barrier.specs.MutatorState.{Mutator}
use Rattle.cycle_opening.specs.Opened.{OpensCycle}
use Rattle.cycle_opening.proofs.ShownAgain.{opened_born, opened_roots, opens_cycle}
use Rattle.cycle_opening.proofs.opening.open_cycle.Goals as goal

pub shade_roots-requires-clause-roots : goal.shade_roots-requires-clause-roots
shade_roots-requires-clause-roots c =
    opened_roots c.requires.shown.shows c.requires.empty c.requires.shown.counted c.begin.ensures.opened

pub shade_roots-requires-clause-born : goal.shade_roots-requires-clause-born
shade_roots-requires-clause-born c =
    opened_born c.requires.shown.shows c.requires.empty c.requires.shown.counted c.begin.ensures.opened

pub returns-clause-opens : goal.returns-clause-opens
returns-clause-opens c graph shown counted =
    subst (λ (one : Mutator). OpensCycle c.args.main.now one graph) (sym c.sound.ensures.same)
    (opens_cycle shown c.requires.empty counted c.begin.ensures.opened c.shade_roots.ensures.grows
    c.shade_roots.ensures.shaded c.sound.ensures.sound)
