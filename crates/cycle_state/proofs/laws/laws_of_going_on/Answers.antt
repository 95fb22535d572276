use Rattle.cycle_state.proofs.Claimed.{page_cells_are_claimed, claims_go_on}
use Rattle.cycle_state.proofs.GoingOn.{goes_on_itself, goes_on_again, events_go_on, goes_on_along, moments_go_on}
use Rattle.cycle_state.proofs.GoingOn.{targets_go_on}
use Rattle.cycle_state.proofs.laws.laws_of_going_on.Goals as goal

pub returns-clause-itself : goal.returns-clause-itself
returns-clause-itself c = goes_on_itself

pub returns-clause-again : goal.returns-clause-again
returns-clause-again c = goes_on_again

pub returns-clause-events : goal.returns-clause-events
returns-clause-events c = events_go_on

pub returns-clause-along : goal.returns-clause-along
returns-clause-along c = goes_on_along

pub returns-clause-moments : goal.returns-clause-moments
returns-clause-moments c = moments_go_on

pub returns-clause-cells : goal.returns-clause-cells
returns-clause-cells c = page_cells_are_claimed

pub returns-clause-stay : goal.returns-clause-stay
returns-clause-stay c = claims_go_on

pub returns-clause-targets : goal.returns-clause-targets
returns-clause-targets c = targets_go_on
