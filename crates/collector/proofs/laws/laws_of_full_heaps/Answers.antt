use Rattle.collector.proofs.FilledHeaps.{full_is_filled}
use Rattle.collector.proofs.laws.laws_of_full_heaps.Goals as goal

pub returns : goal.returns
returns c = full_is_filled
