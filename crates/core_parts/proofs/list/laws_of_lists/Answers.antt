use Rattle.core_parts.proofs.Joining.{joined_in, joined_at_end, joined_no_repeats}
use Rattle.core_parts.proofs.Leaving.{left_out, left_keeps, left_from, left_none, left_no_repeats}
use Rattle.core_parts.proofs.list.laws_of_lists.Goals as goal

pub returns-clause-joined_is_in : goal.returns-clause-joined_is_in
returns-clause-joined_is_in c = joined_in

pub returns-clause-joining_is_at_the_end : goal.returns-clause-joining_is_at_the_end
returns-clause-joining_is_at_the_end c = joined_at_end

pub returns-clause-joining_makes_no_repeats : goal.returns-clause-joining_makes_no_repeats
returns-clause-joining_makes_no_repeats c = joined_no_repeats

pub returns-clause-left_is_out : goal.returns-clause-left_is_out
returns-clause-left_is_out c = left_out

pub returns-clause-others_stay : goal.returns-clause-others_stay
returns-clause-others_stay c = λ list a x other. (left_from list a x, left_keeps list a x other)

pub returns-clause-leaving_of_none : goal.returns-clause-leaving_of_none
returns-clause-leaving_of_none c = left_none

pub returns-clause-leaving_makes_no_repeats : goal.returns-clause-leaving_makes_no_repeats
returns-clause-leaving_makes_no_repeats c = left_no_repeats
