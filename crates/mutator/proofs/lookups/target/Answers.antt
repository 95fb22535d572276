-- A variable that refers to an object is bound to it.
use Rattle.std.proofs.Common.{subst}
use Rattle.std.specs.FinMap.{get}
use Rattle.handle_roots.specs.declared.held.Held.TheVariants.{Ref}
use Rattle.write_barrier.specs.MutatorState.{Mutator}
use Rattle.mutator.specs.Reading.{Finds}
use Rattle.mutator.proofs.HeldValues.{is_root, held_shows, some_shown, bound_stands, ref_bound}
use Rattle.mutator.proofs.StillShown.{some_still, shows_still}
use Rattle.mutator.proofs.lookups.target.Goals as goal

pub referred-requires-clause-root : goal.referred-requires-clause-root
referred-requires-clause-root c = is_root c.args.x c.requires.shown.1 c.requires.within

pub bound-requires-clause-shown : goal.bound-requires-clause-shown
bound-requires-clause-shown c = some_still c.referred.ensures.same c.requires.shown

pub returns-in-Some : goal.returns-in-Some
returns-in-Some c = record {
  found = λ graph shows.
      let one = Ref c.in-Some.at in
      let shown = held_shows c.args.x one shows c.requires.within c.in-Some.ensures.refers in
      let some = some_shown one (get graph.bindings c.args.x) (ref_bound c.in-Some.at) shown in (
        some.value,
        some.is,
        bound_stands c.args.x one some.value shows some.is c.in-Some.ensures.refers.fits some.shows,
      );
  same = c.referred.ensures.same;
}

pub returns-in-None-clause-found : goal.returns-in-None-clause-found
returns-in-None-clause-found c graph shows =
    subst (λ (main : Mutator). Finds main graph (get graph.bindings c.args.x) c.bound.result) c.referred.ensures.same
    (c.bound.ensures.found graph (shows_still c.referred.ensures.same shows))
