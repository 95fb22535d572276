use Rattle.scav_core.proofs.Events.{fresh_is_underway, events_keep, lists_keep}
use Rattle.scav_core.proofs.Unchanged.{fixed_stays}
use Rattle.scav_core.proofs.Outcomes.{underway_has_facts}
use Rattle.scav_core.proofs.laws.laws_of_worlds.Goals as goal

pub returns : goal.returns
returns c = record {
  fresh = fresh_is_underway;
  event = events_keep;
  list = lists_keep;
  fixed = fixed_stays;
  facts = underway_has_facts;
}
