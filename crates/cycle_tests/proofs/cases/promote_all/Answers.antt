-- A scavenge keeps what the heap shows.
use Rattle.std.proofs.Common.{sym, subst}
use Rattle.write_barrier.specs.MutatorState.{Mutator}
use Rattle.cycle_tests.specs.Ready.{IsReady}
use Rattle.cycle_tests.proofs.Ready.{rest_ready}
use Rattle.cycle_tests.proofs.cases.promote_all.Goals as goal

pub returns-clause-ready : goal.returns-clause-ready
returns-clause-ready g c =
    let ready = c.requires.ready in
    subst (λ (one : Mutator). IsReady one c.args.objects) (sym c.survivors.ensures.same)
    (rest_ready c.args.objects ready c.scavenge-list.ensures.scavenged.seat ready.graph
    (c.scavenge-list.ensures.keeps.shows ready.graph ready.shows) ready.counted)
