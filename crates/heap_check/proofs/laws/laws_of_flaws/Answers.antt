use Rattle.heap_check.proofs.WholeFlaws.{whole_has_no_flaw}
use Rattle.heap_check.proofs.laws.laws_of_flaws.Goals as goal

pub returns : goal.returns
returns c = whole_has_no_flaw
