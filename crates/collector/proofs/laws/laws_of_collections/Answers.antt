use Rattle.collector.proofs.CollectedHeaps.{swept_and_scavenged_is_collected}
use Rattle.collector.proofs.laws.laws_of_collections.Goals as goal

pub returns : goal.returns
returns c = swept_and_scavenged_is_collected
