-- The cells of its list have joined the other one.
use Rattle.std.proofs.Common.{ap, subst}
use Rattle.cell_list.specs.Listing.{HasJoined, Listing}
use Rattle.marker.specs.Markers.{Marking}
use Rattle.marker.proofs.markers.Marker.hand_over.Goals as goal

pub returns-clause-joined : goal.returns-clause-joined
returns-clause-joined c =
    subst (λ (list : Listing). HasJoined c.args.to.now c.join.new.self list)
    (ap (λ (m : Marking). m.listing) c.self.view_is) c.join.ensures.joined
