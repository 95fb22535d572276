-- The field is sought from the first prototype on, if there is one.
use Rattle.shape_change.proofs.FieldsAlong.{none_along, first_held, undefined_held}
use Rattle.object_graph.specs.Prototypes.{prototypes_most}
use Rattle.shape_change.proofs.get_field.get_beyond.Goals as goal

pub get_along-requires-clause-plain : goal.get_along-requires-clause-plain
get_along-requires-clause-plain c =
    let shown = c.requires.plain in
    let (proto, to, is) = c.in-Some.ensures shown.graph shown.plain shown.shows shown.is in
    record { graph = shown.graph; plain = proto; shows = shown.shows; is = is }

pub returns-in-Some : goal.returns-in-Some
returns-in-Some c graph plain shows is =
    let (proto, to, at) = c.in-Some.ensures graph plain shows is in
    first_held graph plain proto c.args.name (c.requires.lacks graph plain shows is) to
    (c.get_along.ensures graph proto shows at)

pub returns-in-None : goal.returns-in-None
returns-in-None c graph plain shows is =
    undefined_held
    (none_along graph.objects prototypes_most plain c.args.name (c.requires.lacks graph plain shows is)
    (c.in-None.ensures graph plain shows is)) c.hold.ensures.held c.hold.ensures.heap
