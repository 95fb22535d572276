-- Fillers over no words change nothing.
use Rattle.collector.proofs.Ungranted.{none_touched}
use Rattle.collector.proofs.mark_sweeping.ungrant.Goals as goal

pub returns : goal.returns
returns c = record {
  young = c.grant.ensures.young;
  words = c.grant.ensures.heap;
  beside = c.grant.ensures.beside;
  paths = c.grant.ensures.paths;
  cycle = c.grant.ensures.cycle;
  touches = none_touched c.grant.ensures.touches;
}
