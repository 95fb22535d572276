-- The prototype of a reached object is reached.
use Rattle.std.proofs.Common.{inl}
use Rattle.std.proofs.lemmas.Option.{slice_get_within}
use Rattle.object_graph.specs.declared.value.Value.TheVariants.{Ref}
use Rattle.object_graph.specs.declared.object.Object.TheVariants.{Plain}
use Rattle.graph_laws.specs.ProtoLaws.{ProtosAreReached}
use Rattle.graph_laws.proofs.FoundObjects.{plain_at-is}
use Rattle.graph_laws.proofs.FoundProtos.{proto_at-is}
use Rattle.graph_laws.proofs.Reaches.{reach_closed}

-- the prototype of a reached object is reached
pub proto_is_reached : ProtosAreReached
proto_is_reached graph plain proto at marked leads =
    let there = (plain_at-is graph.objects (Ref plain.number) plain at).1 in
    let next = proto_at-is graph.objects plain proto leads in
    let stands = (plain_at-is graph.objects (Ref proto.number) proto next.1).1 in
    let within = slice_get_within graph.objects proto.number (Plain proto.cap proto.proto proto.fields) stands in
    reach_closed graph plain.number (Plain plain.cap plain.proto plain.fields) proto.number there marked within
    (inl next.0)
