-- A cycle is there to be chosen.
use Rattle.cycle_opening.proofs.Chosen.{cycle_chosen}
use Rattle.cycle_opening.proofs.opening.begin.Goals as goal

pub open_cycle-requires-clause-chosen : goal.open_cycle-requires-clause-chosen
open_cycle-requires-clause-chosen c =
    cycle_chosen c.requires.shown c.requires.empty c.addresses_fit.ensures.within
