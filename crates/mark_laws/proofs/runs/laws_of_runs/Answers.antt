use Rattle.mark_laws.proofs.OneLayouts.{one_layout}
use Rattle.mark_laws.proofs.SoundRuns.{whole_along}
use Rattle.mark_laws.proofs.runs.laws_of_runs.Goals as goal

pub returns-clause-whole : goal.returns-clause-whole
returns-clause-whole c = whole_along

pub returns-clause-layouts : goal.returns-clause-layouts
returns-clause-layouts c = one_layout
