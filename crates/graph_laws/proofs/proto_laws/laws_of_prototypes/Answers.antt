use Rattle.graph_laws.proofs.ProtoChains.{leads_is_after, leads_from, protos_differ, chains_are_short, ring_is_found}
use Rattle.graph_laws.proofs.ProtoChains.{ring_leads}
use Rattle.graph_laws.proofs.ReachedProtos.{proto_is_reached}
use Rattle.graph_laws.proofs.NewProtos.{with_proto_is_graph, refused_makes_ring}
use Rattle.graph_laws.proofs.NearestFields.{nearest_is_found, none_is_found}
use Rattle.graph_laws.proofs.ProtoSteps.{none_makes_no_ring, gets_are_nearest, protos_are_given}
use Rattle.graph_laws.proofs.proto_laws.laws_of_prototypes.Goals as goal

pub returns : goal.returns
returns c = record {
  leads = leads_is_after;
  is_led = leads_from;
  differ = protos_differ;
  short = chains_are_short;
  rings_are_found = ring_is_found;
  rings_lead = ring_leads;
  are_reached = proto_is_reached;
  stay_in_order = with_proto_is_graph;
  refused_make_rings = refused_makes_ring;
  nearest_is_found = nearest_is_found;
  none_is_found = none_is_found;
  none_makes_no_ring = none_makes_no_ring;
  gets_are_nearest = gets_are_nearest;
  protos_are_given = protos_are_given;
}
