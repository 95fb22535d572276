-- The limits let no object have more fields than 64.
use Rattle.std.proofs.Common.{arith}
use Rattle.object_graph.specs.Limits.{ideal_limits}
use Rattle.graph_laws.specs.GraphLaws.{HasFieldLimit}

-- no object may have more
pub ideal_field_limit : HasFieldLimit ideal_limits
ideal_field_limit cap capped = omega arith
