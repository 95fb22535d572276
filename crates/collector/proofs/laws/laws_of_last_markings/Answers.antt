use Rattle.collector.proofs.LastMarkings.{last_markings_are_born}
use Rattle.collector.proofs.laws.laws_of_last_markings.Goals as goal

pub returns : goal.returns
returns c = last_markings_are_born
