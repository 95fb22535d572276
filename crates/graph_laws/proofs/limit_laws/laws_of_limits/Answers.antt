use Rattle.graph_laws.proofs.FieldLimits.{ideal_field_limit}
use Rattle.graph_laws.proofs.limit_laws.laws_of_limits.Goals as goal

pub returns : goal.returns
returns c = ideal_field_limit
