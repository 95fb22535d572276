use Rattle.script_laws.proofs.Naming.{first_uses_name, slice_get-number_of}
use Rattle.script_laws.proofs.names_are_numbered.Goals as goal

pub returns-clause-each_once : goal.returns-clause-each_once
returns-clause-each_once c = first_uses_name

pub returns-clause-named_back : goal.returns-clause-named_back
returns-clause-named_back c = slice_get-number_of
