-- The laws, as they were proved.
use Rattle.object_cells.proofs.OwnCapacities.{capacities_stay, capacities_grow}
use Rattle.object_cells.proofs.laws.laws_of_capacities.Goals as goal

pub returns : goal.returns
returns c = record { stay = capacities_stay; grow = capacities_grow }
