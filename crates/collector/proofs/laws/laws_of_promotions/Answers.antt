use Rattle.collector.proofs.PromotedHomes.{scavenges_promote}
use Rattle.collector.proofs.StartsStay.{scavenges_keep_starts}
use Rattle.collector.proofs.laws.laws_of_promotions.Goals as goal

pub returns-clause-promote : goal.returns-clause-promote
returns-clause-promote c = scavenges_promote

pub returns-clause-starts : goal.returns-clause-starts
returns-clause-starts c = scavenges_keep_starts
