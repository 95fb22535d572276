-- The variable is bound to the field, where the other one refers to a plain object.
use Rattle.std.proofs.Common.{Ok, refl}
use Rattle.mutator.proofs.FieldMeanings.{get_done}
use Rattle.mutator.proofs.FoundKinds.{headed_plain}
use Rattle.mutator.proofs.Rebinding.{value_carried, binds_after}
use Rattle.mutator.proofs.StillShown.{some_still, shows_still, header_still}
use Rattle.mutator.proofs.fields.get.Goals as goal

pub get-requires-clause-plain : goal.get-requires-clause-plain
get-requires-clause-plain o c from =
    let (graph, shows) = c.requires.shown in
    let same = c.headed.ensures.same in
    let found = (headed_plain (header_still same (c.in-Some.ensures.found graph shows)) from).found in
    record { graph = graph; plain = found.plain; shows = shows_still same shows; is = found.stands }

pub get-requires-clause-headed : goal.get-requires-clause-headed
get-requires-clause-headed o c =
    let (graph, shows) = c.requires.shown in
    (header_still c.headed.ensures.same (c.in-Some.ensures.found graph shows)).headed

pub returns-then-get : goal.returns-then-get
returns-then-get o c = record {
  carried = (
    Ok tt,
    c.of.ensures,
    λ graph names shows.
        let same = c.headed.ensures.same in
        let headed = headed_plain (header_still same (c.in-Some.ensures.found graph shows))
        (c.get.ensures.plain.0 c.if-get.true) in
        let shown = shows_still same shows in
        let holds = c.get.ensures.held c.if-get.true graph headed.found.plain shown headed.found.stands in
        value_carried names c.args.y holds.held same shown
        (get_done names c.args.y c.args.f (record { bound = headed.is; refers = headed.found.refers })) refl tt
        c.requires.within.0 holds.fits holds.shows
        (record { held = holds.is; heap = holds.heap }) (λ rooms. (refl, λ number. refl)),
    let (graph, shows) = c.requires.shown in
        let same = c.headed.ensures.same in
        let headed = headed_plain (header_still same (c.in-Some.ensures.found graph shows))
        (c.get.ensures.plain.0 c.if-get.true) in
        let holds = c.get.ensures.held c.if-get.true graph headed.found.plain (shows_still same shows)
        headed.found.stands in
        binds_after c.args.y holds.held same holds.is,
  );
}

pub why_no_object-requires-clause-shown : goal.why_no_object-requires-clause-shown
why_no_object-requires-clause-shown o c = some_still c.headed.ensures.same c.requires.shown
