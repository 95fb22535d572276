use Rattle.mark_laws.proofs.SettlingSteps.{settling_stays}
use Rattle.mark_laws.proofs.Settled.{done_leaves, more_may_be_made, none_made, none_owed, paid_leaves, settled_stays}
use Rattle.mark_laws.proofs.Settled.{shades_settle, steps_settle}
use Rattle.mark_laws.proofs.BetweenRuns.{settling_along}
use Rattle.mark_laws.proofs.RestartSettles.{all_done_leave}
use Rattle.mark_laws.proofs.between.laws_of_settling.Goals as goal

pub returns-clause-none_made : goal.returns-clause-none_made
returns-clause-none_made c = none_made

pub returns-clause-none_owed : goal.returns-clause-none_owed
returns-clause-none_owed c = none_owed

pub returns-clause-more : goal.returns-clause-more
returns-clause-more c = more_may_be_made

pub returns-clause-done : goal.returns-clause-done
returns-clause-done c = done_leaves

pub returns-clause-paid : goal.returns-clause-paid
returns-clause-paid c = paid_leaves

pub returns-clause-under_way : goal.returns-clause-under_way
returns-clause-under_way c = settling_stays

pub returns-clause-stays : goal.returns-clause-stays
returns-clause-stays c = settled_stays

pub returns-clause-shades : goal.returns-clause-shades
returns-clause-shades c = shades_settle

pub returns-clause-settle : goal.returns-clause-settle
returns-clause-settle c = steps_settle

pub returns-clause-along : goal.returns-clause-along
returns-clause-along c = settling_along

pub returns-clause-all_done : goal.returns-clause-all_done
returns-clause-all_done c = all_done_leave
