use Rattle.shared_table.proofs.OwnKeeps.{keeps_numbers}
use Rattle.shared_table.proofs.own_words.OwnWords.count.Goals as goal

pub returns-clause-count : goal.returns-clause-count
returns-clause-count c = (keeps_numbers c.self.inside c.args.self.now c.self.view_is c.self.invariant).heap_count

pub returns-clause-counted : goal.returns-clause-counted
returns-clause-counted c = (keeps_numbers c.self.inside c.args.self.now c.self.view_is c.self.invariant).counted
