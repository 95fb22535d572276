use Rattle.mark_laws.proofs.OwnWhole.{grey_whole}
use Rattle.mark_laws.proofs.OwnReading.{empty_own, own_stays}
use Rattle.mark_laws.proofs.OwnTelling.{allowed_possible, board_old, grey_names, nameless_black, reached_old}
use Rattle.mark_laws.proofs.Visited.{settling_visits, shaded_is_coloured}
use Rattle.mark_laws.proofs.own_views.laws_of_views.Goals as goal

pub returns-clause-empty : goal.returns-clause-empty
returns-clause-empty c = empty_own

pub returns-clause-stay : goal.returns-clause-stay
returns-clause-stay c = own_stays

pub returns-clause-names : goal.returns-clause-names
returns-clause-names c = grey_names

pub returns-clause-nameless : goal.returns-clause-nameless
returns-clause-nameless c = nameless_black

pub returns-clause-possible : goal.returns-clause-possible
returns-clause-possible c = allowed_possible

pub returns-clause-reached : goal.returns-clause-reached
returns-clause-reached c = reached_old

pub returns-clause-board : goal.returns-clause-board
returns-clause-board c = board_old

pub returns-clause-whole : goal.returns-clause-whole
returns-clause-whole c = grey_whole

pub returns-clause-visits : goal.returns-clause-visits
returns-clause-visits c = settling_visits

pub returns-clause-shaded : goal.returns-clause-shaded
returns-clause-shaded c = shaded_is_coloured
