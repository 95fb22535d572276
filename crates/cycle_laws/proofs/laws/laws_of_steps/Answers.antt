use Rattle.cycle_laws.proofs.KeptTargets.{kept_may_be_blackened, kept_targets_are_born}
use Rattle.cycle_laws.proofs.StepsAllowed.{slots_may_be_stored, quiet_words_may_be_stored, headers_may_be_stored}
use Rattle.cycle_laws.proofs.StepsAllowed.{mine_may_begin_cells}
use Rattle.cycle_laws.proofs.laws.laws_of_steps.Goals as goal

pub returns-clause-slots : goal.returns-clause-slots
returns-clause-slots c = slots_may_be_stored

pub returns-clause-quiet : goal.returns-clause-quiet
returns-clause-quiet c = quiet_words_may_be_stored

pub returns-clause-headers : goal.returns-clause-headers
returns-clause-headers c = headers_may_be_stored

pub returns-clause-new : goal.returns-clause-new
returns-clause-new c = mine_may_begin_cells

pub returns-clause-black : goal.returns-clause-black
returns-clause-black c = kept_may_be_blackened

pub returns-clause-targets : goal.returns-clause-targets
returns-clause-targets c = kept_targets_are_born
