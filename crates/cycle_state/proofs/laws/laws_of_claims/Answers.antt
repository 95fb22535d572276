use Rattle.cycle_state.proofs.Claimed.{claims_allow_slots, claims_allow_owned, claims_allow_headers}
use Rattle.cycle_state.proofs.Claimed.{claims_allow_cells}
use Rattle.cycle_state.proofs.laws.laws_of_claims.Goals as goal

pub returns-clause-slots : goal.returns-clause-slots
returns-clause-slots c = claims_allow_slots

pub returns-clause-owned : goal.returns-clause-owned
returns-clause-owned c = claims_allow_owned

pub returns-clause-headers : goal.returns-clause-headers
returns-clause-headers c = claims_allow_headers

pub returns-clause-new : goal.returns-clause-new
returns-clause-new c = claims_allow_cells
