-- None closes no ring, and of a plain object the call on prototypes tells.
use Rattle.std.proofs.Common.{sym, ◌∙◌, ap, subst}
use Rattle.object_graph.specs.Prototypes.{makes_ring}
use Rattle.shape_change.specs.Prototypes.{GivesProto}
use Rattle.mutator.proofs.GivenProtos.{given_some, given_none}
use Rattle.mutator.proofs.prototypes.closes_ring.Goals as goal

pub would_ring-requires : goal.would_ring-requires
would_ring-requires c =
    let shown = c.requires in
    let (to, is, stands) =
    given_some shown.proto
    (subst (λ found. GivesProto c.args.main.now shown.graph found shown.proto) c.in-Some.is shown.gives) in
    record {
      shown = record {
        graph = shown.graph;
        one = shown.plain;
        other = to;
        shows = shown.shows;
        is = shown.is;
        is_other = stands;
      };
    }

pub returns-in-Some : goal.returns-in-Some
returns-in-Some c graph plain number shows stands gives =
    let (to, is, there) =
    given_some number (subst (λ found. GivesProto c.args.main.now graph found number) c.in-Some.is gives) in
    c.would_ring.ensures graph plain to shows stands there ∙ ap (makes_ring graph.objects plain.number) (sym is)

pub returns-in-None : goal.returns-in-None
returns-in-None c graph plain number shows stands gives =
    let main = c.args.main.now in
    sym (ap (makes_ring graph.objects plain.number)
    (given_none main graph number (subst (λ found. GivesProto main graph found number) c.in-None.is gives)))
