use Rattle.page_space.proofs.Covering.{disjoint, ends_within}
use Rattle.page_space.proofs.Limits.{words_count_most}
use Rattle.page_space.proofs.LawsHold.{extents_cover, regions_stand, regions_stand_once, extents_are_of_regions}
use Rattle.page_space.proofs.LawsHold.{addresses_are_in_one, starts_are_inside, stand_by_number, kinds_by_number}
use Rattle.page_space.proofs.laws.laws_of_regions.Goals as goal

pub returns : goal.returns
returns c = record {
  disjoint = disjoint;
  in_one = addresses_are_in_one;
  covering = extents_cover;
  end = ends_within;
  stand = regions_stand;
  once = regions_stand_once;
  regions = extents_are_of_regions;
  starts = starts_are_inside;
  by_number = stand_by_number;
  kinds = kinds_by_number;
  few = words_count_most;
}
