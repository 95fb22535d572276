use Rattle.scav_core.proofs.KnownHomes.{fresh_has_makers, events_keep_makers, lent_knows_none, events_keep_known}
use Rattle.scav_core.proofs.KnownHomes.{exchanges_are_known}
use Rattle.scav_core.proofs.laws.laws_of_known_homes.Goals as goal

pub returns : goal.returns
returns c = record {
  fresh = fresh_has_makers;
  makers = events_keep_makers;
  lent = lent_knows_none;
  event = events_keep_known;
  exchange = exchanges_are_known;
}
