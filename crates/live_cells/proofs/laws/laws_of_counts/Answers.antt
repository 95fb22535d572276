use Rattle.live_cells.proofs.CensusKept.{keeps_the_census}
use Rattle.live_cells.proofs.FullMaps.{exact_maps_are_full}
use Rattle.live_cells.proofs.PairCounts.{maps_have_reached_keys, exact_maps_have_no_others}
use Rattle.live_cells.proofs.laws.laws_of_counts.Goals as goal

pub returns-clause-at_least : goal.returns-clause-at_least
returns-clause-at_least c = maps_have_reached_keys

pub returns-clause-exact : goal.returns-clause-exact
returns-clause-exact c = exact_maps_have_no_others

pub returns-clause-full : goal.returns-clause-full
returns-clause-full c = exact_maps_are_full

pub returns-clause-census : goal.returns-clause-census
returns-clause-census c = keeps_the_census
