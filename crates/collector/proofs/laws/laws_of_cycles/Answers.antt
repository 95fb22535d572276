use Rattle.collector.proofs.BornHeaps.{exact_is_born}
use Rattle.collector.proofs.laws.laws_of_cycles.Goals as goal

pub returns : goal.returns
returns c = exact_is_born
