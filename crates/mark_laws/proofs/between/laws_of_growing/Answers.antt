use Rattle.mark_laws.proofs.Growing.{lists_grow, lists_grow_along, moments_grow}
use Rattle.mark_laws.proofs.SeatsOut.{lend_counts, none_is_zero, others_keep_count, return_counts}
use Rattle.mark_laws.proofs.between.laws_of_growing.Goals as goal

pub returns-clause-grow : goal.returns-clause-grow
returns-clause-grow c = lists_grow

pub returns-clause-along : goal.returns-clause-along
returns-clause-along c = lists_grow_along

pub returns-clause-moments : goal.returns-clause-moments
returns-clause-moments c = moments_grow

pub returns-clause-lend : goal.returns-clause-lend
returns-clause-lend c = lend_counts

pub returns-clause-take_back : goal.returns-clause-take_back
returns-clause-take_back c = return_counts

pub returns-clause-others : goal.returns-clause-others
returns-clause-others c = others_keep_count

pub returns-clause-none : goal.returns-clause-none
returns-clause-none c = none_is_zero
