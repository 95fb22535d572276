-- What the root words of a variable show is what it is bound to.
use Rattle.std.proofs.Common.{refl, subst}
use Rattle.std.specs.FinMap.{get}
use Rattle.write_barrier.specs.MutatorState.{heap_of}
use Rattle.heap_model.specs.Showing.{ShowsHeld}
use Rattle.mutator.proofs.HeldValues.{is_root, held_shows, some_shown, none_shown, bound_stands}
use Rattle.mutator.proofs.lookups.bound.Goals as goal

pub held-requires-clause-root : goal.held-requires-clause-root
held-requires-clause-root c = is_root c.args.x c.requires.shown.1 c.requires.within

pub returns-in-Unbound-clause-found : goal.returns-in-Unbound-clause-found
returns-in-Unbound-clause-found c graph shows =
    let shown = held_shows c.args.x c.held.result shows c.requires.within c.held.ensures.holds in (
      none_shown (get graph.bindings c.args.x)
          (subst (λ h. ShowsHeld (heap_of c.args.main.now) h (get graph.bindings c.args.x)) c.in-Unbound.is shown),
      refl,
    )

pub returns-in_default : goal.returns-in_default
returns-in_default c = record {
  found = λ graph shows.
      let shown = held_shows c.args.x c.held.result shows c.requires.within c.held.ensures.holds in
      let some = some_shown c.held.result (get graph.bindings c.args.x) c.in_default.not-Unbound shown in (
        some.value,
        some.is,
        bound_stands c.args.x c.held.result some.value shows some.is c.held.ensures.holds.fits
            some.shows,
      );
  same = c.held.ensures.same;
}
