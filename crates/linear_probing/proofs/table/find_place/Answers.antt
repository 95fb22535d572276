use Rattle.std.proofs.Common.{arith}
use Rattle.linear_probing.proofs.Searches.{has_no_end}
use Rattle.linear_probing.proofs.table.find_place.Goals as goal

pub returns : goal.returns
returns c = has_no_end c.args.table.now c.args.number c.loop-step.step (omega arith) c.loop-step.invariant
