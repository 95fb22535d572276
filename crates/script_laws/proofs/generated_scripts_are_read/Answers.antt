use Rattle.script_laws.proofs.GeneratedScripts.{generated_are_scripts}
use Rattle.script_laws.proofs.GeneratedSizes.{generated_lines_are_short, generated_are_short}
use Rattle.script_laws.proofs.generated_scripts_are_read.Goals as goal

pub returns-clause-scripts : goal.returns-clause-scripts
returns-clause-scripts c = generated_are_scripts

pub returns-clause-short_lines : goal.returns-clause-short_lines
returns-clause-short_lines c = generated_lines_are_short

pub returns-clause-short : goal.returns-clause-short
returns-clause-short c = generated_are_short
