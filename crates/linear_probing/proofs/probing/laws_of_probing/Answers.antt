use Rattle.linear_probing.proofs.Findings.{comes_everywhere, empty_finds_all, none_where_free, put_is_found}
use Rattle.linear_probing.proofs.Places.{fewer_leave_one_free}
use Rattle.linear_probing.proofs.probing.laws_of_probing.Goals as goal

pub returns-clause-everywhere : goal.returns-clause-everywhere
returns-clause-everywhere c = comes_everywhere

pub returns-clause-free : goal.returns-clause-free
returns-clause-free c = fewer_leave_one_free

pub returns-clause-none : goal.returns-clause-none
returns-clause-none c = none_where_free

pub returns-clause-empty : goal.returns-clause-empty
returns-clause-empty c = empty_finds_all

pub returns-clause-put : goal.returns-clause-put
returns-clause-put c = put_is_found
