use Rattle.scavenger.proofs.Started.{shown_heaps_may_begin}
use Rattle.scavenger.proofs.Tight.{scavenges_are_tight, scavenges_fill_pages}
use Rattle.scavenger.proofs.PromotedCells.{scavenges_of_all_leave_stuck}
use Rattle.scavenger.proofs.TakenWords.{scavenges_take_words}
use Rattle.scavenger.proofs.laws.laws_of_scavenges.Goals as goal

pub returns : goal.returns
returns c =
    record {
      begin = shown_heaps_may_begin;
      tight = scavenges_are_tight;
      pages = scavenges_fill_pages;
      words = scavenges_take_words;
      stuck = scavenges_of_all_leave_stuck;
    }
