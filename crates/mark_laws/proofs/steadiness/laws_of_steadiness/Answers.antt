use Rattle.mark_laws.proofs.Colours.{colours_rise}
use Rattle.mark_laws.proofs.Holding.{cells_hold}
use Rattle.mark_laws.proofs.ListsStay.{lists_stay}
use Rattle.mark_laws.proofs.Sizing.{sizes_stay}
use Rattle.mark_laws.proofs.GreysWait.{greys_wait}
use Rattle.mark_laws.proofs.steadiness.laws_of_steadiness.Goals as goal

pub returns-clause-rise : goal.returns-clause-rise
returns-clause-rise c = colours_rise

pub returns-clause-sizes : goal.returns-clause-sizes
returns-clause-sizes c = sizes_stay

pub returns-clause-cells : goal.returns-clause-cells
returns-clause-cells c = cells_hold

pub returns-clause-lists : goal.returns-clause-lists
returns-clause-lists c = lists_stay

pub returns-clause-grey : goal.returns-clause-grey
returns-clause-grey c = greys_wait
