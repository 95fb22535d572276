use Rattle.script_laws.proofs.Integers.{integers_are_read, integers_are_written}
use Rattle.script_laws.proofs.Words.{keywords_are_found, keywords_are_known}
use Rattle.script_laws.proofs.words_are_read.Goals as goal

pub returns-clause-integers_read : goal.returns-clause-integers_read
returns-clause-integers_read c = integers_are_read

pub returns-clause-integers_written : goal.returns-clause-integers_written
returns-clause-integers_written c = integers_are_written

pub returns-clause-keywords_found : goal.returns-clause-keywords_found
returns-clause-keywords_found c = keywords_are_found

pub returns-clause-keywords_known : goal.returns-clause-keywords_known
returns-clause-keywords_known c = keywords_are_known
