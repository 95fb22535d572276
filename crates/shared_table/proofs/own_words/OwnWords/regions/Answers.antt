use Rattle.shared_table.proofs.OwnKeeps.{keeps_numbers}
use Rattle.shared_table.proofs.own_words.OwnWords.regions.Goals as goal

pub returns-clause-counted : goal.returns-clause-counted
returns-clause-counted c = (keeps_numbers c.self.inside c.args.self.now c.self.view_is c.self.invariant).counted
