-- The value is read first: a small integer by its word, and any other.
use Rattle.std.proofs.Common.{[], Some, ◌∙◌, subst}
use Rattle.heap_command.specs.declared.command.Command.TheVariants.{Set}
use Rattle.object_graph.specs.Graphs.{value_of}
use Rattle.write_barrier.specs.MutatorState.{Mutator}
use Rattle.mutator.specs.CarriesOut.{Carries}
use Rattle.mutator.proofs.SmallWords.{small_given}
use Rattle.mutator.proofs.StillShown.{some_still, shows_still, given_still}
use Rattle.mutator.proofs.fields.set.Goals as goal

pub set_value-requires-clause-shown : goal.set_value-requires-clause-shown
set_value-requires-clause-shown o c =
    let (graph, shows) = c.requires.shown in (
      graph,
      c.args.v.now,
      shows_still c.small_word.ensures.same shows,
      small_given (c.in-Some.ensures.found graph shows),
    )

pub set_value-requires-clause-is : goal.set_value-requires-clause-is
set_value-requires-clause-is o c =
    let (graph, shows) = c.requires.shown in
    let found = c.in-Some.ensures.found graph shows in (found.v, found.small, found.gives)

pub returns-in-Some : goal.returns-in-Some
returns-in-Some o c =
    let same = c.small_word.ensures.same in
    let (came, says, carried) = c.set_value.ensures.carried in
    record {
      carried = (
        came,
        says,
        λ graph names shows.
            subst (λ (main : Mutator). Carries names main c.set_value.new.main graph
            (Set c.args.x c.args.f c.args.v.now) [] came) same
            (carried graph names c.args.v.now (shows_still same shows)
            (small_given (c.in-Some.ensures.found graph shows))),
      );
    }

pub given-requires-clause-shown : goal.given-requires-clause-shown
given-requires-clause-shown o c = some_still c.small_word.ensures.same c.requires.shown

pub set_value-requires-in-Some-given-clause-shown : goal.set_value-requires-in-Some-given-clause-shown
set_value-requires-in-Some-given-clause-shown o c =
    let (graph, shows) = c.requires.shown in
    let still = shows_still c.small_word.ensures.same shows in (
      graph,
      c.args.v.now,
      shows_still c.given.ensures.same still,
      given_still graph (value_of graph c.args.v.now) (Some c.in-Some-given.value) c.given.ensures.same
          (c.in-Some-given.ensures.found graph still),
    )

pub returns-in-Some-given : goal.returns-in-Some-given
returns-in-Some-given o c =
    let same = c.given.ensures.same ∙ c.small_word.ensures.same in
    let (came, says, carried) = c.set_value-in-Some-given.ensures.carried in
    record {
      carried = (
        came,
        says,
        λ graph names shows.
            let still = shows_still c.small_word.ensures.same shows in
            subst (λ (main : Mutator). Carries names main c.set_value-in-Some-given.new.main graph
            (Set c.args.x c.args.f c.args.v.now) [] came) same
            (carried graph names c.args.v.now (shows_still same shows)
            (given_still graph (value_of graph c.args.v.now) (Some c.in-Some-given.value) c.given.ensures.same
            (c.in-Some-given.ensures.found graph still))),
      );
    }
