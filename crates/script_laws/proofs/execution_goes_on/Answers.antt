use Rattle.script_text.proofs.Left as left
use Rattle.script_laws.proofs.execution_goes_on.Goals as goal

pub returns-clause-begins : goal.returns-clause-begins
returns-clause-begins c = left.begins

pub returns-clause-at_end : goal.returns-clause-at_end
returns-clause-at_end c = left.at_end

pub returns-clause-past_command : goal.returns-clause-past_command
returns-clause-past_command c = left.past_command

pub returns-clause-into_block : goal.returns-clause-into_block
returns-clause-into_block c = left.into_block

pub returns-clause-past_block : goal.returns-clause-past_block
returns-clause-past_block c = left.past_block

pub returns-clause-back : goal.returns-clause-back
returns-clause-back c = left.back

pub returns-clause-out : goal.returns-clause-out
returns-clause-out c = left.out

pub returns-clause-inside_block : goal.returns-clause-inside_block
returns-clause-inside_block c = left.inside_block

pub returns-clause-depth : goal.returns-clause-depth
returns-clause-depth c = left.depth

pub returns-clause-at_most_four : goal.returns-clause-at_most_four
returns-clause-at_most_four c = left.at_most_four
