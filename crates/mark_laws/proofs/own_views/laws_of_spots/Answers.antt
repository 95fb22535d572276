use Rattle.mark_laws.proofs.OwnCells.{empty_old, old_cells_stay}
use Rattle.mark_laws.proofs.NamedPages.{named_page}
use Rattle.mark_laws.proofs.OwnSpots.{spots_there, target_old}
use Rattle.mark_laws.proofs.own_views.laws_of_spots.Goals as goal

pub returns-clause-target : goal.returns-clause-target
returns-clause-target c = target_old

pub returns-clause-named : goal.returns-clause-named
returns-clause-named c = named_page

pub returns-clause-spots : goal.returns-clause-spots
returns-clause-spots c = spots_there

pub returns-clause-empty : goal.returns-clause-empty
returns-clause-empty c = empty_old

pub returns-clause-stay : goal.returns-clause-stay
returns-clause-stay c = old_cells_stay
