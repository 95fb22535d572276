use Rattle.script_laws.proofs.Spelling.{statements_are_read_again}
use Rattle.script_laws.proofs.Printing.{printed_is_read_again}
use Rattle.script_laws.proofs.printed_is_read_again.Goals as goal

pub returns-clause-statements : goal.returns-clause-statements
returns-clause-statements c = statements_are_read_again

pub returns-clause-scripts : goal.returns-clause-scripts
returns-clause-scripts c = printed_is_read_again
