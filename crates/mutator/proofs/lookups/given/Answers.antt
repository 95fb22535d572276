-- A literal is given as it is, and what is given of a variable stands for what it is bound to.
use Rattle.std.proofs.Common.{ℤ, ℕ, ◌<◌, Some, None, w64, SFits, rules, ap, sym, subst}
use Rattle.std.specs.Prelude.{Option}
use Rattle.std.specs.FinMap.{get}
use Rattle.std.proofs.lemmas.Int.{to_z-of_z}
use Rattle.object_graph.specs.declared.value.Value.TheVariants.{Int, Undefined}
use Rattle.object_graph.specs.Graphs.{Graph, value_of}
use Rattle.write_barrier.specs.Seats.{heap_words}
use Rattle.handle_roots.specs.declared.given.Given.{Given}
use Rattle.write_barrier.specs.MutatorState.{Mutator, MainShows}
use Rattle.mutator.specs.Reading.{FindsGiven}
use Rattle.handle_roots.specs.declared.held.Held.TheVariants as held
use Rattle.handle_roots.specs.Givens.{IsGivenFor, GivesHeld}
use Rattle.heap_model.specs.Showing.{ShowsHeld}
use Rattle.heap_command.specs.Commands.{NamesBelow}
use Rattle.mutator.proofs.HeldValues.{is_root, held_shows, some_shown, none_shown, bound_stands, given_bound}
use Rattle.mutator.proofs.lookups.given.Goals as goal

pub returns-in-Int-clause-found : goal.returns-in-Int-clause-found
returns-in-Int-clause-found c graph shows =
    let v = c.in-Int.v in
    let fits : SFits w64 v = search rules in
    let P : ℤ → Type 0 = λ w. IsGivenFor c.integer.result (held.Int w) in (
      held.Int v,
      subst P (to_z-of_z w64 v fits) c.integer.ensures.gives,
      (
        Int v,
        ap (value_of graph) c.in-Int.is,
        record { is = record { shows = ShowsHeld.integer v; reached = tt }; fits = fits },
      ),
    )

pub returns-in-Undefined-clause-found : goal.returns-in-Undefined-clause-found
returns-in-Undefined-clause-found c graph shows = (
  held.Undefined,
  c.undefined.ensures,
  (
    Undefined,
    ap (value_of graph) c.in-Undefined.is,
    record { is = record { shows = ShowsHeld.undefined; reached = tt }; fits = tt },
  ),
)

pub given-requires-clause-root : goal.given-requires-clause-root
given-requires-clause-root c =
    is_root c.in-Var.x c.requires.shown.1
    (subst (NamesBelow c.args.main.now.seat.space.variables) c.in-Var.is c.requires.within)

-- what is given of a variable stands for what it is bound to
bound_given : {main : Mutator} (graph : Graph) (x : ℕ) (found : Option Given) → MainShows main graph
    → x < main.seat.space.variables → GivesHeld main.seat.space (heap_words main.seat) x found
    → FindsGiven main graph (get graph.bindings x) found
bound_given graph x (Some given) shows known (one, holds, gives) =
    let shown = held_shows x one shows known holds in
    let some = some_shown one (get graph.bindings x) (given_bound given one gives) shown in
    (one, gives, (some.value, some.is, bound_stands x one some.value shows some.is holds.fits some.shows))
bound_given graph x None shows known holds =
    none_shown (get graph.bindings x) (held_shows x held.Unbound shows known holds)

pub returns-in-Var-clause-found : goal.returns-in-Var-clause-found
returns-in-Var-clause-found c graph shows =
    let x = c.in-Var.x in
    let known = subst (NamesBelow c.args.main.now.seat.space.variables) c.in-Var.is c.requires.within in
    subst (λ sought. FindsGiven c.args.main.now graph sought c.given.result) (sym (ap (value_of graph) c.in-Var.is))
    (bound_given graph x c.given.result shows known c.given.ensures.given)
