use Rattle.ephemeron_mark.proofs.GrownLists.{grows_nothing}
use Rattle.ephemeron_mark.proofs.seen.mark_table.Goals as goal

pub returns-else-eq-clause-grown : goal.returns-else-eq-clause-grown
returns-else-eq-clause-grown c = grows_nothing c.requires.marking
