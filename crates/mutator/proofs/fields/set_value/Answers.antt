-- The field of the object comes to have the value, or the command stops.
use Rattle.std.proofs.Common.{Err, ◌∙◌}
use Rattle.mutator.specs.Stops.{stop_in}
use Rattle.mutator.specs.declared.stop.Stop.TheVariants.{Fault}
use Rattle.mutator.proofs.FieldMeanings.{set_lacks}
use Rattle.mutator.proofs.FieldsSet.{may_set, sets_carried}
use Rattle.mutator.proofs.StillShown.{shows_still}
use Rattle.mutator.proofs.fields.set_value.Goals as goal

pub headed-requires-clause-shown : goal.headed-requires-clause-shown
headed-requires-clause-shown o c =
    let (graph, v, shows, finds) = c.requires.shown in
    (graph, shows)

pub set-requires-clause-may : goal.set-requires-clause-may
set-requires-clause-may o c =
    let (graph, v, shows, finds) = c.requires.shown in
    may_set c.args.x v c.headed.ensures.same shows finds (c.in-Some.ensures.found graph shows)

pub returns-in-Some : goal.returns-in-Some
returns-in-Some o c =
    let (came, tells, sets) = c.set.ensures in
    record {
      carried = (
        stop_in came,
        o.met.O.Outcome.of_field c.set.result came tells,
        λ graph names v shows finds. sets_carried c.set.new.main names c.args.x c.args.f v c.headed.ensures.same shows
            finds (c.in-Some.ensures.found graph shows) came sets,
      );
    }

pub why_no_object-requires-clause-shown : goal.why_no_object-requires-clause-shown
why_no_object-requires-clause-shown o c =
    let (graph, v, shows, finds) = c.requires.shown in
    (graph, shows_still c.headed.ensures.same shows)

pub returns-in-None : goal.returns-in-None
returns-in-None o c =
    let still = c.headed.ensures.same in
    record {
      carried = (
        Err (Fault c.why_no_object.result),
        c.of.ensures,
        λ graph names v shows finds. (
          set_lacks graph names c.args.x c.args.f v (c.why_no_object.ensures.lacks graph (shows_still still shows))
              finds.2.1,
          c.why_no_object.ensures.same ∙ still,
        ),
      );
    }
