use Rattle.cycle_laws.proofs.BoundKept.{bindings_keep_closed, new_objects_keep_closed}
use Rattle.cycle_laws.proofs.ChangedCells.{changes_keep_closed}
use Rattle.cycle_laws.proofs.RestingAgain.{commands_rest, bindings_rest, new_objects_rest}
use Rattle.cycle_laws.proofs.laws.laws_of_changes.Goals as goal

pub returns-clause-bindings : goal.returns-clause-bindings
returns-clause-bindings c = bindings_keep_closed

pub returns-clause-objects : goal.returns-clause-objects
returns-clause-objects c = new_objects_keep_closed

pub returns-clause-cells : goal.returns-clause-cells
returns-clause-cells c = changes_keep_closed

pub returns-clause-rest : goal.returns-clause-rest
returns-clause-rest c = commands_rest

pub returns-clause-bound : goal.returns-clause-bound
returns-clause-bound c = bindings_rest

pub returns-clause-made : goal.returns-clause-made
returns-clause-made c = new_objects_rest
