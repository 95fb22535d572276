use Rattle.free_runs.proofs.Takes.{longest_tells, takes_make_none_longer}
use Rattle.free_runs.proofs.TakenWords.{takes_keep_words, taken_are_apart}
use Rattle.free_runs.proofs.laws.laws_of_runs.Goals as goal

pub returns-clause-fits : goal.returns-clause-fits
returns-clause-fits c = longest_tells

pub returns-clause-shorter : goal.returns-clause-shorter
returns-clause-shorter c = takes_make_none_longer

pub returns-clause-words : goal.returns-clause-words
returns-clause-words c = takes_keep_words

pub returns-clause-apart : goal.returns-clause-apart
returns-clause-apart c = taken_are_apart
