-- The maps that were passed are cleared, and so many pairs went.
use Rattle.ephemeron_clear.proofs.MapsPassed.{PassesMaps}
use Rattle.ephemeron_clear.proofs.maps.clear.Given as goal

abbrev pub invariant-loop-map : goal.invariant-loop-map
invariant-loop-map l = PassesMaps l.fn.main l.main l.fn.maps l.marked.addresses l.map-index l.gone
