use Rattle.scavenger.proofs.Granted.{grants_keep_graphs, grants_keep_stores, grants_stay_tight}
use Rattle.scavenger.proofs.laws.laws_of_grants.Goals as goal

pub returns-clause-graphs : goal.returns-clause-graphs
returns-clause-graphs c = grants_keep_graphs

pub returns-clause-stores : goal.returns-clause-stores
returns-clause-stores c = grants_keep_stores

pub returns-clause-tight : goal.returns-clause-tight
returns-clause-tight c = grants_stay_tight
