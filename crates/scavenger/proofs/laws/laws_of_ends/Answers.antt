use Rattle.scavenger.proofs.Ended.{ends_are_scavenges}
use Rattle.scavenger.proofs.laws.laws_of_ends.Goals as goal

pub returns : goal.returns
returns c = ends_are_scavenges
