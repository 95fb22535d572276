use Rattle.script_text.proofs.Unrolling.{unrolls_runs, unrolls_blocks}
use Rattle.script_laws.proofs.Wholes.{scripts_are_whole}
use Rattle.script_laws.proofs.blocks_are_executed_in_turns.Goals as goal

pub returns-clause-whole : goal.returns-clause-whole
returns-clause-whole c = scripts_are_whole

pub returns-clause-commands : goal.returns-clause-commands
returns-clause-commands c = unrolls_runs

pub returns-clause-blocks : goal.returns-clause-blocks
returns-clause-blocks c = unrolls_blocks
